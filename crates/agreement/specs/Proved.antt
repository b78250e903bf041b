-- DEMAND 3, proved: the three statements of Agreement.antt.
use Rattle.std.proofs.Common.{sym}
use Rattle.agreement.specs.Agreement.{TreeAndCodeAgree, EntriesAgree, AnswersAgree}
use Rattle.agreement.specs.Texts.{agreement, variables, steps as same-steps}
use Rattle.agreement.specs.Entries.{outcomes_agree}

pub tree_and_code_agree : TreeAndCodeAgree
tree_and_code_agree src b z p none input budget room =
    let h = agreement src b z p none input budget room in
    record { number = h.number; output = h.out; lines = h.lines; steps = same-steps _ _ _ h budget; variables = variables _ _ _ h }

pub entries_agree : EntriesAgree
entries_agree src b p none code work compiled e z input budget out cells hc ran r vars room hv hw walked w =
    rw (r, w, e) (outcomes_agree src b p none code work (rw (sym e) z) input budget out cells vars room hc hv hw)

pub answers_agree : AnswersAgree
answers_agree src b p none code work c kinds levels operands left e z input budget out lent cells r outRun hc x places vars room after w outWalk hv hw y =
    let h = entries_agree src b p none code work _ e z input budget out lent hc _ x places room hv hw _ y in
    let pn = h.number in
    let pl = h.out_length in
    let pi = h.lines in
    let ps = h.steps in
    record { answer = λ i. record { number = pn i; out_len = pl i; lines = pi i; steps = ps i }; out = h.out; variables = h.variables }
