-- The refusals of the code by their numbers on the panel.
use Rattle.std.specs.Prelude.{◌≡◌, refl, List, [], ◌∷◌, ℕ}
use Rattle.std.proofs.Common.{sym, ap, ◌∙◌, get_or}
use Rattle.numbers.specs.Panel.{source_too_long, source_not_ascii, bad_token, literal_too_big, token_missing, body_failed_quietly, too_many_open, too_many_tokens, name_taken, name_not_found, wrong_kind, wrong_arguments, level_above, too_many_rows, too_many_instructions, budget_spent, cell_outside, place_outside, result_outside, division_by_zero, not_an_operation, bad_entry, output_full, room_too_small, procedure_in_tree}
use Rattle.numbers.specs.declared.refusal.Refusal.{Refusal}
use Rattle.numbers.specs.declared.refusal.Refusal.TheVariants.{SourceTooLong, SourceNotAscii, BadToken, LiteralTooBig, TokenMissing, BodyFailedQuietly, TooManyOpen, TooManyTokens, NameTaken, NameNotFound, WrongKind, WrongArguments, LevelAbove, TooManyRows, TooManyInstructions, BudgetSpent, CellOutside, PlaceOutside, ResultOutside, DivisionByZero, NotAnOperation, BadEntry, OutputFull, RoomTooSmall, ProcedureInTree}

-- the number of a refusal
abbrev pub number_of : Refusal → ℕ
number_of SourceTooLong = source_too_long
number_of SourceNotAscii = source_not_ascii
number_of BadToken = bad_token
number_of LiteralTooBig = literal_too_big
number_of TokenMissing = token_missing
number_of BodyFailedQuietly = body_failed_quietly
number_of TooManyOpen = too_many_open
number_of TooManyTokens = too_many_tokens
number_of NameTaken = name_taken
number_of NameNotFound = name_not_found
number_of WrongKind = wrong_kind
number_of WrongArguments = wrong_arguments
number_of LevelAbove = level_above
number_of TooManyRows = too_many_rows
number_of TooManyInstructions = too_many_instructions
number_of BudgetSpent = budget_spent
number_of CellOutside = cell_outside
number_of PlaceOutside = place_outside
number_of ResultOutside = result_outside
number_of DivisionByZero = division_by_zero
number_of NotAnOperation = not_an_operation
number_of BadEntry = bad_entry
number_of OutputFull = output_full
number_of RoomTooSmall = room_too_small
number_of ProcedureInTree = procedure_in_tree

-- the refusals in the order of the panel
abbrev refusals : List Refusal
refusals = SourceTooLong ∷ SourceNotAscii ∷ BadToken ∷ LiteralTooBig ∷ TokenMissing ∷ BodyFailedQuietly ∷ TooManyOpen ∷ TooManyTokens ∷ NameTaken
    ∷ NameNotFound ∷ WrongKind ∷ WrongArguments ∷ LevelAbove ∷ TooManyRows ∷ TooManyInstructions ∷ BudgetSpent ∷ CellOutside
    ∷ PlaceOutside ∷ ResultOutside ∷ DivisionByZero ∷ NotAnOperation ∷ BadEntry ∷ OutputFull ∷ RoomTooSmall ∷ ProcedureInTree ∷ []

abbrev refusal_at : ℕ → Refusal
refusal_at n = get_or (SourceTooLong ∷ refusals) n SourceTooLong

back : (r : Refusal) → refusal_at (number_of r) ≡ r
back SourceTooLong = refl
back SourceNotAscii = refl
back BadToken = refl
back LiteralTooBig = refl
back TokenMissing = refl
back BodyFailedQuietly = refl
back TooManyOpen = refl
back TooManyTokens = refl
back NameTaken = refl
back NameNotFound = refl
back WrongKind = refl
back WrongArguments = refl
back LevelAbove = refl
back TooManyRows = refl
back TooManyInstructions = refl
back BudgetSpent = refl
back CellOutside = refl
back PlaceOutside = refl
back ResultOutside = refl
back DivisionByZero = refl
back NotAnOperation = refl
back BadEntry = refl
back OutputFull = refl
back RoomTooSmall = refl
back ProcedureInTree = refl

-- two refusals of one number are the same
pub refusal_is : (r t : Refusal) → number_of r ≡ number_of t → r ≡ t
refusal_is r t e = sym (back r) ∙ ap refusal_at e ∙ back t
