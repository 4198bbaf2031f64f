-- The values of a piece, group by group.
use Rattle.std.proofs.Common.{◌≡◌, ℕ, ◌+◌, ◌*◌, ◌-◌, ◌%◌, ◌<◌, ◌≤◌, min, true, false, cond, List, [], ◌∷◌, map, length, drop, get_or, refl, sym, ap, ◌∙◌, inl, inr, arith}
use Rattle.std.specs.Prelude.{Option, None, Some, Result, Ok, Err, nat_lt, is_ok}
use Rattle.std.proofs.lemmas.Bool.{cases_lt, lt-ltb, le-ltb}
use Rattle.std.proofs.lemmas.List.{drop_more, drop_all}
use Rattle.vlq_mappings.specs.declared.VlqCause.TheVariants.{Digit, Cut}
use Rattle.vlq_mappings.specs.declared.VlqFault.{VlqFault}
use Rattle.vlq_mappings.specs.declared.values.Value.{Value}
use Rattle.vlq_mappings.specs.Faults.{◌>>=◌, fault, or_fault, goes_on}
use Rattle.vlq_mappings.specs.Digits.{digit, value, values, with_digit, lengthened}
use Rattle.vlq_mappings.specs.Mappings.{is_comma, is_semicolon}
use Rattle.vlq_mappings.specs.Pieces.{upto, piece_at, is_end, nearest, near_values, with_value}
use Rattle.vlq_mappings.proofs.Numbers.{cap, heavy, carried, carried_last, first_weight}

-- ---- a piece, byte by byte

abbrev pub piece_of : List ℕ → List ℕ
piece_of rest = upto is_comma (upto is_semicolon rest)

piece-cons : (b : ℕ) (bs : List ℕ) → is_end (piece_of (b ∷ bs)) ≡ false → piece_of (b ∷ bs) ≡ b ∷ piece_of bs
piece-cons b bs =
    let rest = upto is_semicolon bs in
    elim (is_semicolon b) as (λ t. is_end (upto is_comma (cond t [] (b ∷ rest))) ≡ false → upto is_comma (cond t [] (b ∷ rest)) ≡ b ∷ upto is_comma rest) [
      | true ↦ λ e. cc
      | false ↦ elim (is_comma b) as (λ t. is_end (cond t [] (b ∷ upto is_comma rest)) ≡ false → cond t [] (b ∷ upto is_comma rest) ≡ b ∷ upto is_comma rest) [
        | true ↦ λ e. cc
        | false ↦ λ e. refl
      ]
    ]

-- where a piece goes on, the text does
pub within_piece : (text : List ℕ) (at : ℕ) → is_end (piece_at text at) ≡ false → at < length text
within_piece text at some =
    elim (cases_lt at (length text)) [
      | inl lt ↦ lt
      | inr le ↦
          let e : is_end (piece_of (drop at text)) ≡ true = rw (drop_all at text le) refl in
          absurd (cc)
    ]

pub piece_more : (text : List ℕ) (at : ℕ) → is_end (piece_at text at) ≡ false → piece_at text at ≡ get_or text at 0 ∷ piece_at text (at + 1)
piece_more text at some =
    let lt = within_piece text at some in
    let e : drop at text ≡ get_or text at 0 ∷ drop (at + 1) text = drop_more text at 0 lt in
    let some' : is_end (piece_of (get_or text at 0 ∷ drop (at + 1) text)) ≡ false = (ap (λ t. is_end (piece_of t)) (sym e)) ∙ some in
    ap piece_of e ∙ piece-cons (get_or text at 0) (drop (at + 1) text) some'

-- ---- the open value

abbrev pub nears : List Value → Result (List Value) VlqFault
nears vs = Ok (map nearest vs)

-- the values of a piece whose first groups come to below, and whose next one has this weight
abbrev pub closed : ℕ → ℕ → ℕ → ℕ → Result (List Value) VlqFault → Result (List Value) VlqFault
closed place below weight at (Err e) = Err e
closed place below weight at (Ok []) = fault at Cut
closed place below weight at (Ok (v ∷ vs)) = Ok (value place (min (below + weight * v.whole) cap) ∷ vs)

-- one digit more
abbrev digits_on : ℕ → Option ℕ → Result (List Value) VlqFault → Result (List Value) VlqFault
digits_on at x r = (or_fault at Digit x >>= λ d. r >>= with_digit at d) >>= nears

opens : (from : ℕ) (x : Option ℕ) (r : Result (List Value) VlqFault) → closed from 0 1 from (digits_on from x r) ≡ digits_on from x r
opens from None r = refl
opens from (Some d) (Err e) = refl
opens from (Some d) (Ok []) =
    elim (nat_lt d 32) as (λ t. closed from 0 1 from (cond t (Ok (value from d ∷ [])) (lengthened from (d - 32) []) >>= nears) ≡ (cond t (Ok (value from d ∷ [])) (lengthened from (d - 32) []) >>= nears)) [
      | true ↦ ap (λ n. Ok (value from n ∷ [])) (first_weight d)
      | false ↦ refl
    ]
opens from (Some d) (Ok (v ∷ vs)) =
    elim (nat_lt d 32) as (λ t. closed from 0 1 from (cond t (Ok (value from d ∷ v ∷ vs)) (lengthened from (d - 32) (v ∷ vs)) >>= nears) ≡ (cond t (Ok (value from d ∷ v ∷ vs)) (lengthened from (d - 32) (v ∷ vs)) >>= nears)) [
      | true ↦ ap (λ n. Ok (value from n ∷ map nearest (v ∷ vs))) (first_weight d)
      | false ↦ ap (λ n. Ok (value from n ∷ map nearest vs)) (first_weight (d - 32 + 32 * v.whole))
    ]

-- a digit that says that another follows
goes : (from below weight at d : ℕ) (r : Result (List Value) VlqFault) → nat_lt d 32 ≡ false → d % 32 ≡ d - 32 → d % 32 < 32 → 1 ≤ weight
    → closed from below weight at (digits_on at (Some d) r) ≡ closed from (min (below + d % 32 * weight) cap) (min (weight * 32) heavy) (at + 1) (r >>= nears)
goes from below weight at d (Err e) big low least pos = refl
goes from below weight at d (Ok []) big low least pos = rw big refl
goes from below weight at d (Ok (v ∷ vs)) big low least pos =
    rw (big, low) (ap (λ n. Ok (value from n ∷ map nearest vs)) (carried below weight (d - 32) v.whole (omega arith) pos))

-- a digit that is the last of its value
ends : (from below weight at d : ℕ) (r : Result (List Value) VlqFault) → nat_lt d 32 ≡ true → d < 32
    → closed from below weight at (digits_on at (Some d) r) ≡ goes_on (r >>= nears) (with_value (value from (min (below + d * weight) cap)))
ends from below weight at d (Err e) small lt = refl
ends from below weight at d (Ok vs) small lt =
    rw small (ap (λ n. Ok (value from n ∷ map nearest vs)) (carried_last below weight d lt))

-- ---- at a place of a text

pub open_at : (text : List ℕ) (from : ℕ) → is_end (piece_at text from) ≡ false
    → closed from 0 1 from (near_values from (piece_at text from)) ≡ near_values from (piece_at text from)
open_at text from some =
    rw (piece_more text from some) (opens from (digit (get_or text from 0)) (values (from + 1) (piece_at text (from + 1))))

pub digit_at : (text : List ℕ) (from below weight at b : ℕ) → is_end (piece_at text at) ≡ false → b ≡ get_or text at 0 → digit b ≡ None
    → closed from below weight at (near_values at (piece_at text at)) ≡ fault at Digit
digit_at text from below weight at b some here none =
    rw (piece_more text at some) (ap (λ x. closed from below weight at (digits_on at x (values (at + 1) (piece_at text (at + 1))))) (sym (ap digit here) ∙ none))

pub goes_at : (text : List ℕ) (from below weight at b d : ℕ) → is_end (piece_at text at) ≡ false → b ≡ get_or text at 0 → digit b ≡ Some d → d < 64 → 32 ≤ d → 1 ≤ weight
    → closed from below weight at (near_values at (piece_at text at))
    ≡ closed from (min (below + d % 32 * weight) cap) (min (weight * 32) heavy) (at + 1) (near_values (at + 1) (piece_at text (at + 1)))
goes_at text from below weight at b d some here worth lt le pos =
    rw (piece_more text at some)
    (ap (λ x. closed from below weight at (digits_on at x (values (at + 1) (piece_at text (at + 1))))) (sym (ap digit here) ∙ worth)
    ∙ goes from below weight at d (values (at + 1) (piece_at text (at + 1))) (le-ltb d 32 le) (omega arith) (omega arith) pos)

pub ends_at : (text : List ℕ) (from below weight at b d : ℕ) → is_end (piece_at text at) ≡ false → b ≡ get_or text at 0 → digit b ≡ Some d → d < 32
    → closed from below weight at (near_values at (piece_at text at))
    ≡ goes_on (near_values (at + 1) (piece_at text (at + 1))) (with_value (value from (min (below + d * weight) cap)))
ends_at text from below weight at b d some here worth lt =
    rw (piece_more text at some)
    (ap (λ x. closed from below weight at (digits_on at x (values (at + 1) (piece_at text (at + 1))))) (sym (ap digit here) ∙ worth)
    ∙ ends from below weight at d (values (at + 1) (piece_at text (at + 1))) (lt-ltb d 32 lt) lt)

no_more : (from below weight at : ℕ) (bs : List ℕ) → is_end bs ≡ true → closed from below weight at (near_values at bs) ≡ fault at Cut
no_more from below weight at [] e = refl
no_more from below weight at (b ∷ bs) e = cc

pub cut_at : (text : List ℕ) (from below weight at : ℕ) → is_end (piece_at text at) ≡ true
    → closed from below weight at (near_values at (piece_at text at)) ≡ fault at Cut
cut_at text from below weight at over = no_more from below weight at (piece_at text at) over

-- ---- values that are passed over

-- what holds where some values are read, and others before them
pub record Passes (all : Result (List Value) VlqFault) (rest : Result (List Value) VlqFault) : Type 0 where
  pub err : (e : VlqFault) → rest ≡ Err e → all ≡ Err e
  pub ok : is_ok rest ≡ true → is_ok all ≡ true

pub Passes-refl : (all : Result (List Value) VlqFault) → Passes all all
Passes-refl all = record { err = λ e h. h; ok = λ h. h }

passes_one : (v : Value) (r : Result (List Value) VlqFault) → Passes (goes_on r (with_value v)) r
passes_one v (Ok vs) = record { err = λ e h. cc; ok = λ h. refl }
passes_one v (Err e) = record { err = λ f h. cc; ok = λ h. cc }

pub Passes-more : (all rest next : Result (List Value) VlqFault) (v : Value) → Passes all rest → rest ≡ goes_on next (with_value v) → Passes all next
Passes-more all rest next v before step =
    let one = passes_one v next in
    record {
      err = λ e h. before.err e (step ∙ one.err e h);
      ok = λ h. before.ok (ap is_ok step ∙ one.ok h);
    }

-- ---- a value before others, and what is made of them

pub behind_value : {B : Type 0} (r next : Result (List Value) VlqFault) (v : Value) (f : List Value → Result B VlqFault)
    → r ≡ goes_on next (with_value v) → goes_on r f ≡ goes_on next (λ vs. f (v ∷ vs))
behind_value r (Ok vs) v f e = ap (λ x. goes_on x f) e
behind_value r (Err d) v f e = ap (λ x. goes_on x f) e
