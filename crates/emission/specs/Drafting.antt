-- Laws of pieces of code and of the draft that they are written to.
use Rattle.std.specs.Prelude.{◌≡◌, refl, List, [], ◌∷◌, ◌++◌, ℕ, ◌+◌, ◌-◌, ◌*◌, ◌/◌, ◌%◌, ◌≤◌, ◌<◌, ℤ, pos, length, take, set, Result, Ok, Err}
use Rattle.std.proofs.Common.{sym, ap, ◌∙◌, append_assoc, arith, length-append, lt-ltb, le-ltb, le-leb}
use Rattle.std.proofs.lemmas.Bool.{lt-leb}
use Rattle.numbers.specs.Limits.{max_code, draft_places, draft_share}
use Rattle.numbers.specs.declared.refusal.Refusal.{Refusal}
use Rattle.numbers.specs.declared.refusal.Refusal.TheVariants.{TooManyInstructions, LevelAbove}
use Rattle.numbers.specs.Refusals.{number_of}
use Rattle.tree.specs.Layout.{half}
use Rattle.tree.specs.Writing.{four_put}
use Rattle.pcode.specs.Code.{Op, Instr, ins}
use Rattle.symbols.specs.Symbols.{Row}
use Rattle.emission.specs.Pieces.{Out, made, refuse, Piece, before, onward, ◌⨾◌, nothing, refusing, emit}
use Rattle.emission.specs.Statements.{Env, reach}
use Rattle.emission.specs.Draft.{op_no, whole, drafted, Wrote, Emits, wrote, refused}

pub drafted_append : (c d : List Instr) → drafted (c ++ d) ≡ drafted c ++ drafted d
unfolding drafted
drafted_append [] d = refl
drafted_append (i ∷ c) d = rw (drafted_append c d)

pub length_drafted : (c : List Instr) → length (drafted c) ≡ draft_share * length c
unfolding drafted
length_drafted [] = refl
length_drafted (i ∷ c) = omega (arith, length_drafted c)

-- one instruction

emitted : (o : Op) (l : ℕ) (a : ℤ) (n : ℕ) → n < max_code → emit o l a n ≡ made (ins o l a ∷ [])
unfolding emit
emitted o l a n h = rw (lt-ltb n max_code h, emit)

-- the four numbers lie there
pub put_there : (o : Op) (l low high n : ℕ) (xs ys : List ℕ) → low < half → n < max_code → take (draft_share * n + 4) ys ≡ take (draft_share * n) xs ++ (op_no o ∷ l ∷ low ∷ high ∷ []) → Emits (emit o l (pos (whole low high)) n) n xs ys (Ok (n + 1))
unfolding drafted
put_there o l low high n xs ys b h lies =
    let ends : draft_share * (n + 1) ≡ draft_share * n + 4 = omega arith in
    let el : whole low high % half ≡ low = omega arith in
    let eh : whole low high / half ≡ high = omega arith in
    wrote {m = n + 1}
    (record {
      code = ins o l (pos (whole low high)) ∷ [];
      is = emitted o l (pos (whole low high)) n h;
      ends = omega arith;
      lies = rw (ends, el, eh) lies;
      most = omega arith;
    })

-- they are put down, one by one
pub put : (o : Op) (l low high n : ℕ) (xs : List ℕ) → low < half → draft_places ≤ length xs → n < max_code
    → Emits (emit o l (pos (whole low high)) n) n xs (set (set (set (set xs (4 * n) (op_no o)) (4 * n + 1) l) (4 * n + 2) low) (4 * n + 3) high) (Ok (n + 1))
put o l low high n xs b room h = put_there o l low high n xs _ b h (four_put xs (draft_share * n) (op_no o) l low high (omega arith))

-- or there is no place left
pub full : (o : Op) (l : ℕ) (a : ℤ) (n : ℕ) (xs ys : List ℕ) → max_code ≤ n → Emits (emit o l a n) n xs ys (Err TooManyInstructions)
unfolding emit
full o l a n xs ys h = refused {e = TooManyInstructions} (rw (le-ltb n max_code h, emit))

-- the same piece by another name
pub same : {o o' : Out} {n : ℕ} {xs ys : List ℕ} {r : Result ℕ Refusal} → o ≡ o' → Emits o' n xs ys r → Emits o n xs ys r
same e h = rw e h

-- an operand of one half
pub narrow : (o : Op) (l a n : ℕ) {xs ys : List ℕ} {r : Result ℕ Refusal} → Emits (emit o l (pos (whole a 0)) n) n xs ys r → Emits (emit o l (pos a) n) n xs ys r
narrow o l a n h = let e : a ≡ whole a 0 = omega arith in rw e h

-- "Levels: current minus the row's"
pub reach_not : (o : Op) (ρ : Env) (w : Row) (a n : ℕ) (xs ys : List ℕ) → ρ.level < w.level → Emits (reach o ρ w a n) n xs ys (Err LevelAbove)
unfolding reach refusing
reach_not o ρ w a n xs ys h = refused {e = LevelAbove} (rw (lt-leb w.level ρ.level h, reach))

pub reach_on : (o : Op) (ρ : Env) (w : Row) (a n : ℕ) {xs ys : List ℕ} {r : Result ℕ Refusal} → w.level ≤ ρ.level → Emits (emit o (ρ.level - w.level) (pos a) n) n xs ys r → Emits (reach o ρ w a n) n xs ys r
unfolding reach
reach_on o ρ w a n h e = same (rw (le-leb w.level ρ.level h, reach)) e

-- what a place says that was reached
pub wrote_at : {o : Out} {n : ℕ} {xs ys : List ℕ} {m : ℕ} → Emits o n xs ys (Ok m) → Wrote o n xs ys m
wrote_at (wrote w) = w

-- a refusal is one of whatever draft is left
pub refusal : {o o' : Out} {n n' : ℕ} {xs ys xs' ys' : List ℕ} {e : Refusal} → ((k : ℕ) → o ≡ refuse k → o' ≡ refuse k) → Emits o n xs ys (Err e) → Emits o' n' xs' ys' (Err e)
refusal {e} k (refused h) = refused (k (number_of e) h)

-- pieces, one after the other

before_before : (c d : List Instr) (o : Out) → before c (before d o) ≡ before (c ++ d) o
before_before c d (made e) = ap made (sym (append_assoc c d e))
before_before c d (refuse n) = refl

before_nil : (o : Out) → o ≡ before [] o
before_nil (made c) = refl
before_nil (refuse n) = refl

pub append_nil : (l : List ℕ) → l ≡ l ++ []
append_nil [] = refl
append_nil (x ∷ l) = ap (λ (t : List ℕ). x ∷ t) (append_nil l)

-- what has been written of a piece g₀ from n₀ on, and the piece g that is left, at n
pub record Sofar (g₀ : Piece) (n₀ : ℕ) (xs : List ℕ) (g : Piece) (n : ℕ) (ys : List ℕ) : Type 0 where
  pub code : List Instr
  pub is : g₀ n₀ ≡ before code (g n)
  pub ends : n ≡ n₀ + length code
  pub lies : take (draft_share * n) ys ≡ take (draft_share * n₀) xs ++ drafted code
  pub most : n ≤ max_code

pub so_start : (g : Piece) {n : ℕ} {xs : List ℕ} → n ≤ max_code → Sofar g n xs g n xs
unfolding drafted
so_start g {n} {xs} h = record { code = []; is = before_nil (g n); ends = omega arith; lies = append_nil (take (draft_share * n) xs); most = h }

-- what is left is another piece that is the same
pub so_same : {g₀ : Piece} {n₀ : ℕ} {xs : List ℕ} {g h : Piece} {n : ℕ} {ys : List ℕ} → g n ≡ h n → Sofar g₀ n₀ xs g n ys → Sofar g₀ n₀ xs h n ys
so_same e s = record { code = s.code; is = s.is ∙ ap (before s.code) e; ends = s.ends; lies = s.lies; most = s.most }

pub lies_on : (a : List ℕ) (c d : List Instr) (p q : List ℕ) → p ≡ a ++ drafted c → q ≡ p ++ drafted d → q ≡ a ++ drafted (c ++ d)
lies_on a c d p q e f = f ∙ ap (λ (l : List ℕ). l ++ drafted d) e ∙ append_assoc a (drafted c) (drafted d) ∙ ap (λ (l : List ℕ). a ++ l) (sym (drafted_append c d))

seq_is : (g h : Piece) (n : ℕ) (c : List Instr) → g n ≡ made c → (g ⨾ h) n ≡ before c (h (n + length c))
unfolding ◌⨾◌
seq_is g h n c e = ap (onward n h) e

-- the next piece is written
pub so_then : {g₀ : Piece} {n₀ : ℕ} {xs : List ℕ} (g h : Piece) {n : ℕ} {ys zs : List ℕ} {m : ℕ}
    → Sofar g₀ n₀ xs (g ⨾ h) n ys → Emits (g n) n ys zs (Ok m) → Sofar g₀ n₀ xs h m zs
so_then {g₀} {n₀} {xs} g h {n} {ys} {zs} {m} s v =
    let w = wrote_at v in
    record {
      code = s.code ++ w.code;
      is = s.is ∙ ap (before s.code) (seq_is g h n w.code w.is ∙ ap (λ (x : ℕ). before w.code (h x)) (sym w.ends)) ∙ before_before s.code w.code (h m);
      ends = omega (arith, w.ends, s.ends, length-append s.code w.code);
      lies = lies_on (take (draft_share * n₀) xs) s.code w.code (take (draft_share * n) ys) (take (draft_share * m) zs) s.lies w.lies;
      most = w.most;
    }

end_wrote : {g₀ : Piece} {n₀ : ℕ} {xs : List ℕ} {g : Piece} {n : ℕ} {ys zs : List ℕ} {m : ℕ} → Sofar g₀ n₀ xs g n ys → Wrote (g n) n ys zs m → Wrote (g₀ n₀) n₀ xs zs m
end_wrote {g₀} {n₀} {xs} {g} {n} {ys} {zs} {m} s w = record {
  code = s.code ++ w.code;
  is = s.is ∙ ap (before s.code) w.is;
  ends = omega (arith, w.ends, s.ends, length-append s.code w.code);
  lies = lies_on (take (draft_share * n₀) xs) s.code w.code (take (draft_share * n) ys) (take (draft_share * m) zs) s.lies w.lies;
  most = w.most;
}

-- the last piece is written, or refused
pub so_last : {g₀ : Piece} {n₀ : ℕ} {xs : List ℕ} {g : Piece} {n : ℕ} {ys zs : List ℕ} {r : Result ℕ Refusal} → Sofar g₀ n₀ xs g n ys → Emits (g n) n ys zs r → Emits (g₀ n₀) n₀ xs zs r
so_last s (wrote w) = wrote (end_wrote s w)
so_last s (refused h) = refused (s.is ∙ ap (before s.code) h)

-- nothing is left
pub so_done : {g₀ : Piece} {n₀ : ℕ} {xs : List ℕ} {g : Piece} {n : ℕ} {ys : List ℕ} → g n ≡ made [] → Sofar g₀ n₀ xs g n ys → Emits (g₀ n₀) n₀ xs ys (Ok n)
unfolding drafted
so_done {n} {ys} e s = wrote (end_wrote s (record { code = []; is = e; ends = omega arith; lies = append_nil (take (draft_share * n) ys); most = s.most }))

-- the next piece is refused
pub so_stop : {g₀ : Piece} {n₀ : ℕ} {xs : List ℕ} (g h : Piece) {n : ℕ} {ys zs zs' : List ℕ} {e : Refusal}
    → Sofar g₀ n₀ xs (g ⨾ h) n ys → Emits (g n) n ys zs (Err e) → Emits (g₀ n₀) n₀ xs zs' (Err e)
unfolding ◌⨾◌
so_stop g h {n} s w = refusal (λ k q. s.is ∙ ap (before s.code) (ap (onward n h) q)) w

-- two pieces
pub stop : (g h : Piece) {n : ℕ} {ys zs zs' : List ℕ} {e : Refusal} → Emits (g n) n ys zs (Err e) → Emits ((g ⨾ h) n) n ys zs' (Err e)
unfolding ◌⨾◌
stop g h {n} w = refusal (λ k q. ap (onward n h) q) w

pub then : (g h : Piece) {n : ℕ} {xs ys zs : List ℕ} {r : Result ℕ Refusal} {m : ℕ} → n ≤ max_code → Emits (g n) n xs ys (Ok m) → Emits (h m) m ys zs r → Emits ((g ⨾ h) n) n xs zs r
then g h b v w = so_last (so_then g h (so_start (g ⨾ h) b) v) w

-- three pieces, however they are joined
pub seq_assoc : (g h k : Piece) (n : ℕ) → (g ⨾ h ⨾ k) n ≡ ((g ⨾ h) ⨾ k) n
unfolding ◌⨾◌
seq_assoc g h k n = from (g n)
  where
    joined : (c : List Instr) (y : Out) → before c (onward (n + length c) k y) ≡ onward n k (before c y)
    joined c (made d) =
        let e : n + length c + length d ≡ n + length (c ++ d) = omega (arith, length-append c d) in
        before_before c d (k (n + length c + length d)) ∙ ap (λ (x : ℕ). before (c ++ d) (k x)) e
    joined c (refuse e) = refl

    from : (x : Out) → onward n (λ p. onward p k (h p)) x ≡ onward n k (onward n h x)
    from (made c) = joined c (h (n + length c))
    from (refuse e) = refl

-- a piece and nothing after it
pub seq_nothing : (g : Piece) (n : ℕ) → g n ≡ (g ⨾ nothing) n
unfolding ◌⨾◌ nothing
seq_nothing g n = from (g n)
  where
    nil : (c : List Instr) → c ≡ c ++ []
    nil [] = refl
    nil (i ∷ c) = ap (λ (d : List Instr). i ∷ d) (nil c)

    from : (x : Out) → x ≡ onward n nothing x
    from (made c) = ap made (nil c)
    from (refuse e) = refl
