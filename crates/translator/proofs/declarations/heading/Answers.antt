-- The proof of `heading`.
use native.Mathlib.Omega.{arith}
use Rattle.emission.specs.Passed.{passed}
use Rattle.translator.proofs.Rowing.{head_numbers, proc_declares, heading_stop, grown, inner_can, heading_made}
use Rattle.translator.proofs.declarations.heading.Goals as goal

pub procedure-y-requires : goal.procedure-y-requires
procedure-y-requires c = (head_numbers c.requires.has_heading.at).fits

pub enter-requires : goal.enter-requires
enter-requires c = proc_declares _ c.args.source.now.tree.now _ c.args.table.now c.args.i c.args.used c.args.frame c.procedure-y.ensures c.requires.can c.requires.has_heading

pub returns-in_err-u : goal.returns-in_err-u
returns-in_err-u c = rw (passed c.from_residual.ensures.1) (heading_stop c.args.source.now.text.now c.args.source.now.tree.now c.args.table.now _ c.args.i c.args.used c.args.frame c.procedure-y.ensures c.in_err-u.ensures _)

pub overflow_cast-inner : goal.overflow_cast-inner
overflow_cast-inner c = omega (arith, (grown c.args.source.now.text.now c.args.source.now.tree.now c.args.table.now _ c.args.i c.args.used c.args.frame c.procedure-y.ensures c.in_ok-u.ensures).sound.linked.most)

pub overflow_add-i : goal.overflow_add-i
overflow_add-i c = omega (arith, (head_numbers c.requires.has_heading.at).fits, c.well_formed)

pub names_decl-requires : goal.names_decl-requires
names_decl-requires c =
    record {
      can = inner_can c.args.source.now.text.now c.args.source.now.tree.now c.args.table.now _ c.args.i c.args.used c.args.frame c.procedure-y.ensures c.in_ok-u.ensures;
      has_names = record { list = c.requires.has_heading.args; at = (head_numbers c.requires.has_heading.at).args_at };
    }

pub returns : goal.returns
returns c = heading_made c.args.source.now.text.now c.args.source.now.tree.now c.args.table.now _ c.args.i c.args.used c.args.frame c.procedure-y.ensures c.in_ok-u.ensures c.names_decl.ensures
