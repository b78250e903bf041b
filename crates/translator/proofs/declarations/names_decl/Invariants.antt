-- The proof of `names_decl`.
use Prim.Native.Nat.{◌+◌, ◌≤◌}
use Rattle.numbers.specs.Stack.{links}
use Rattle.tree.specs.Nodes.{name_node}
use Rattle.tree.specs.Named.{NameIn}
use Rattle.symbols.specs.Table.{rows_in, scope_at}
use Rattle.translator.proofs.Rowing.{Grows, RowLoop, add_var}
use Rattle.translator.proofs.declarations.names_decl.Given as goal

abbrev pub invariant-loop : goal.invariant-loop
invariant-loop l =
    let s = l.source.text.now in
    let xs = l.initial.table in
    let f = l.frame in
    Grows s xs l.fn.used f.scope l.table l.used × (l.address ≤ l.used + links) × RowLoop name_node (NameIn s) l.source.tree.now (add_var l.checked f.level (scope_at s xs f.scope)) (λ x. x + 1) l.end l.i (rows_in s xs l.fn.used) f.address l.counter l.j l.address (rows_in s l.table l.used)
