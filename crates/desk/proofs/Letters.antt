-- The letters of a kind's number are those of the kind that is made of it.
use mathlib.Core.Path.{◌≡◌, refl, sym, ap}
use Prim.Native.Nat.{ℕ, zero, suc, ◌*◌, ◌<◌}
use native.Mathlib.Omega.{arith}
use borrow.Author.Tests.{lt-leb}
use lib.IntN.{ℤ, pos, negsuc}
use lib.ListN.{take, drop}
use Rattle.numbers.specs.Bytes.{bytes}
use Rattle.pcode.specs.Code.{kind_no, kind_of, kinds}
use Rattle.desk.specs.Listing.{kind_place, kind_text, all_letters}

-- past the kinds stands NIL
past : (n : ℕ) → 10 < n → kind_place (pos n) ≡ 11
unfolding kind_place
past n h = rw (lt-leb n 10 h, kind_place) refl

pub kind_text_from : (k : ℤ) → kind_text (kind_no (kind_of k)) ≡ kind_text k
unfolding kind_text kind_place kind_no kind_of kinds all_letters bytes
kind_text_from (pos zero) = refl
kind_text_from (pos (suc zero)) = refl
kind_text_from (pos (suc (suc zero))) = refl
kind_text_from (pos (suc (suc (suc zero)))) = refl
kind_text_from (pos (suc (suc (suc (suc zero))))) = refl
kind_text_from (pos (suc (suc (suc (suc (suc zero)))))) = refl
kind_text_from (pos (suc (suc (suc (suc (suc (suc zero))))))) = refl
kind_text_from (pos (suc (suc (suc (suc (suc (suc (suc zero)))))))) = refl
kind_text_from (pos (suc (suc (suc (suc (suc (suc (suc (suc zero))))))))) = refl
kind_text_from (pos (suc (suc (suc (suc (suc (suc (suc (suc (suc zero)))))))))) = refl
kind_text_from (pos (suc (suc (suc (suc (suc (suc (suc (suc (suc (suc zero))))))))))) = refl
kind_text_from (pos (suc (suc (suc (suc (suc (suc (suc (suc (suc (suc (suc n)))))))))))) = ap (λ (k : ℕ). take 3 (drop (k * 3) all_letters)) (sym (past (suc (suc (suc (suc (suc (suc (suc (suc (suc (suc (suc n))))))))))) (omega arith)))
kind_text_from (negsuc n) = refl
