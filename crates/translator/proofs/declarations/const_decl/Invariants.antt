-- The proof of `const_decl`.
use Rattle.tree.specs.Nodes.{const_node}
use Rattle.tree.specs.Named.{NamedConst}
use Rattle.symbols.specs.Table.{rows_in, scope_at}
use Rattle.translator.proofs.Rowing.{Grows, RowLoop, add_const}
use Rattle.translator.proofs.declarations.const_decl.Given as goal

abbrev pub invariant-loop : goal.invariant-loop
invariant-loop l =
    let s = l.source.text.now in
    let xs = l.initial.table in
    let f = l.frame in
    Grows s xs l.fn.used f.scope l.table l.used × RowLoop const_node (NamedConst s) l.source.tree.now (add_const f.level (scope_at s xs f.scope)) (λ x. x) l.end l.i (rows_in s xs l.fn.used) f.address l.counter l.j f.address (rows_in s l.table l.used)
