-- What is refused has the fault that is named, and it is the first.
use Rattle.std.proofs.Common.{◌≡◌, ℕ, ◌+◌, ◌-◌, ◌/◌, ◌%◌, ◌≤◌, ◌⊎◌, Bool, true, false, cond, List, [], ◌∷◌, length, refl, sym, ap, subst, ◌∙◌, inl, inr, arith}
use Rattle.std.specs.Prelude.{Option, None, Some, Result, Ok, Err, nat_lt, ◌==◌, IsSome}
use Rattle.std.specs.List.{slice_split}
use Rattle.std.proofs.lemmas.Bool.{cases_lt, lt-ltb, le-ltb}
use Rattle.std.proofs.lemmas.Bool.Decides.{nat_tests}
use Rattle.vlq_mappings.specs.declared.Segment.{Segment}
use Rattle.vlq_mappings.specs.declared.VlqCause.{VlqCause}
use Rattle.vlq_mappings.specs.declared.VlqCause.TheVariants.{Digit, Cut, Fields, Range}
use Rattle.vlq_mappings.specs.declared.VlqFault.{VlqFault}
use Rattle.vlq_mappings.specs.declared.VlqFault.TheVariants.{At}
use Rattle.vlq_mappings.specs.declared.values.Value.{Value}
use Rattle.vlq_mappings.specs.declared.last.Last.{Last}
use Rattle.vlq_mappings.specs.Faults.{◌>>=◌, or_fault}
use Rattle.vlq_mappings.specs.Kept.{most}
use Rattle.vlq_mappings.specs.Digits.{digit, Spells, value, values, with_digit, lengthened}
use Rattle.vlq_mappings.specs.Mappings.{moved, segment_of, segment_at, segments_at, with_segment, lines_at, with_line, next_line, is_comma}
use Rattle.vlq_mappings.specs.Grammar.{Leads, last_numbers, behind}
use Rattle.vlq_mappings.specs.FirstFault.{HasNoDigit, IsCut, SpellsMany, is_field_count, LeadsOut, HasFault, LineHasFault, LinesHaveFault}
use Rattle.vlq_mappings.proofs.Binds.{bind_err}
use Rattle.vlq_mappings.proofs.Found.{SpellsValues, AllNear, values_found, step_found}
use Rattle.vlq_mappings.proofs.FoundLines.{segment_found, line_found}
use Rattle.vlq_mappings.proofs.Again.{leads_moved}

-- ---- values

-- a fault of the values themselves
abbrev pub IsValueFault : ℕ → List ℕ → VlqCause → ℕ → Type 0
IsValueFault place bytes Digit at = HasNoDigit place bytes at
IsValueFault place bytes Cut at = IsCut place bytes at
IsValueFault place bytes Fields at = ⊥
IsValueFault place bytes Range at = ⊥

is_digit : (b d : ℕ) → digit b ≡ Some d → IsSome (digit b)
is_digit b d e = rw e refl

behind_digit : (place b d : ℕ) (bs : List ℕ) (cause : VlqCause) (at : ℕ) → digit b ≡ Some d → IsValueFault (place + 1) bs cause at → IsValueFault place (b ∷ bs) cause at
behind_digit place b d bs Digit at worth h =
    (b ∷ h.0, h.1, h.2, ap (λ t. b ∷ t) h.3, (is_digit b d worth, h.4), h.5, omega arith)
behind_digit place b d bs Cut at worth h =
    (b ∷ h.0, h.1, h.2, ap (λ t. b ∷ t) h.3, (is_digit b d worth, h.4), h.5, h.6, omega arith)
behind_digit place b d bs Fields at worth h = h
behind_digit place b d bs Range at worth h = h

not_digit : (place b : ℕ) (bs : List ℕ) (cause : VlqCause) (at : ℕ) → digit b ≡ None → At place Digit ≡ At at cause → IsValueFault place (b ∷ bs) cause at
not_digit place b bs Digit at none e = let same : place ≡ at = cc in ([], b, bs, refl, tt, none, omega arith)
not_digit place b bs Cut at none e = cc
not_digit place b bs Fields at none e = cc
not_digit place b bs Range at none e = cc

cut_here : (place b d : ℕ) (bs : List ℕ) (cause : VlqCause) (at : ℕ) → digit b ≡ Some d → 32 ≤ d → bs ≡ [] → At (place + 1) Cut ≡ At at cause → IsValueFault place (b ∷ bs) cause at
cut_here place b d bs Digit at worth le over e = cc
cut_here place b d bs Cut at worth le over e =
    let same : place + 1 ≡ at = cc in
    let one : length (b ∷ bs) ≡ 1 = ap (λ t. length (b ∷ t)) over in
    ([], b, d, ap (λ t. b ∷ t) over, tt, worth, le, omega arith)
cut_here place b d bs Fields at worth le over e = cc
cut_here place b d bs Range at worth le over e = cc

err_same : {A : Type 0} (d e : VlqFault) → ◌≡◌ {A = Result A VlqFault} (Err d) (Err e) → d ≡ e
err_same d e h = cc

none_behind : (place b d : ℕ) (bs : List ℕ) (ws : List Value) (cause : VlqCause) (at : ℕ) → digit b ≡ Some d → 32 ≤ d → SpellsValues (place + 1) bs ws
    → lengthened place (d - 32) ws ≡ Err (At at cause) → IsValueFault place (b ∷ bs) cause at
none_behind place b d bs [] cause at worth le spells e = cut_here place b d bs cause at worth le spells (err_same _ _ e)
none_behind place b d bs (w ∷ ws) cause at worth le spells e = cc

open_end : (place b d : ℕ) (bs : List ℕ) (ws : List Value) (cause : VlqCause) (at : ℕ) → digit b ≡ Some d → SpellsValues (place + 1) bs ws
    → with_digit place d ws ≡ Err (At at cause) → IsValueFault place (b ∷ bs) cause at
open_end place b d bs ws cause at worth spells e =
    elim (cases_lt d 32) [
      | inl lt ↦ let small : with_digit place d ws ≡ Ok (value place d ∷ ws) = rw (lt-ltb d 32 lt) refl in cc
      | inr le ↦
          let big : with_digit place d ws ≡ lengthened place (d - 32) ws = rw (le-ltb d 32 le) refl in
          none_behind place b d bs ws cause at worth le spells (sym big ∙ e)
    ]

there_or_not : (x : Option ℕ) → (x ≡ None) ⊎ ((d : ℕ) × (x ≡ Some d))
there_or_not None = inl refl
there_or_not (Some d) = inr (d, refl)

values_refused : (place : ℕ) (bytes : List ℕ) (cause : VlqCause) (at : ℕ) → values place bytes ≡ Err (At at cause) → IsValueFault place bytes cause at
values_refused place [] cause at e = cc
values_refused place (b ∷ bs) cause at e =
    let reads : ℕ → Result (List Value) VlqFault = λ d. values (place + 1) bs >>= with_digit place d in
    elim (there_or_not (digit b)) [
      | inl none ↦ not_digit place b bs cause at none (err_same _ _ (sym (ap (λ x. or_fault place Digit x >>= reads) none) ∙ e))
      | inr some ↦
          elim (bind_err (values (place + 1) bs) (with_digit place some.0) (At at cause) (sym (ap (λ x. or_fault place Digit x >>= reads) some.1) ∙ e)) [
            | inl h ↦ behind_digit place b some.0 bs cause at some.1 (values_refused (place + 1) bs cause at h)
            | inr went ↦ open_end place b some.0 bs went.value cause at some.1 (values_found (place + 1) bs went.value went.first) went.then
          ]
    ]

-- ---- numbers

by_tests : (b1 b2 b3 b4 : Bool) (m n : ℕ) (f e : VlqFault) → cond b1 (Err f) (cond b2 (cond b3 (Err f) (Ok m)) (cond b4 (Err f) (Ok n))) ≡ Err e → e ≡ f
by_tests true b2 b3 b4 m n f e h = cc
by_tests false true true b4 m n f e h = cc
by_tests false true false b4 m n f e h = cc
by_tests false false b3 true m n f e h = cc
by_tests false false b3 false m n f e h = cc

moved_fault : (last : ℕ) (v : Value) (e : VlqFault) → moved last v ≡ Err e → e ≡ At v.place Range
moved_fault last v e h =
    let size = v.whole / 2 in
    by_tests (nat_lt most size) (v.whole % 2 == 1) (nat_lt last size) (nat_lt most (last + size)) (last - size) (last + size) (At v.place Range) e h

same_whole : (bytes : List ℕ) (m n : ℕ) → Spells bytes m → Spells bytes n → m ≡ n
same_whole [] m n h k = absurd h
same_whole (b ∷ []) m n h k = cc (h.1, k.1)
same_whole (b ∷ c ∷ bs) m n h k =
    let high = same_whole (c ∷ bs) h.1 k.1 h.5 k.5 in
    let low : h.0 + 32 ≡ k.0 + 32 = cc (h.3, k.3) in
    omega (arith, high, low, h.4, k.4)

-- a value leads to no number, behind others that do
abbrev MovesOut : List ℕ → List Value → VlqFault → Type 0
MovesOut lasts [] e = ⊥
MovesOut [] (v ∷ vs) e = ⊥
MovesOut (last ∷ lasts) (v ∷ vs) e = (moved last v ≡ Err e) ⊎ ((n : ℕ) × (moved last v ≡ Ok n) × MovesOut lasts vs e)

out_is_range : (lasts : List ℕ) (vs : List Value) (cause : VlqCause) (at : ℕ) → MovesOut lasts vs (At at cause) → cause ≡ Range
out_is_range lasts [] cause at h = absurd h
out_is_range [] (v ∷ vs) cause at h = absurd h
out_is_range (last ∷ lasts) (v ∷ vs) cause at h =
    elim h [
      | inl out ↦ let e = moved_fault last v (At at cause) out in cc
      | inr on ↦ out_is_range lasts vs cause at on.2
    ]

nowhere : (last : ℕ) (v : Value) (front : List ℕ) (e : VlqFault) → Spells front v.whole → moved last v ≡ Err e → (n : ℕ) → Leads last front n → ⊥
nowhere last v front e spells out n h =
    let m = leads_moved last front n h in
    let same : m.whole ≡ v.whole = same_whole front m.whole v.whole m.spells spells in
    let goes : moved last v ≡ Ok n = sym (ap (λ w. moved last (value v.place w)) same) ∙ m.then v.place in
    cc

leads_out : (place : ℕ) (lasts : List ℕ) (bytes : List ℕ) (vs : List Value) (at : ℕ) → AllNear lasts → SpellsValues place bytes vs → MovesOut lasts vs (At at Range) → LeadsOut place lasts bytes at
leads_out place lasts bytes [] at near spells h = absurd h
leads_out place [] bytes (v ∷ vs) at near spells h = absurd h
leads_out place (last ∷ lasts) bytes (v ∷ vs) at near spells h =
    elim h [
      | inl out ↦
          let same = moved_fault last v (At at Range) out in
          let here : at ≡ v.place = cc in
          (spells.0, spells.1, v.whole, spells.2, spells.3, inl (nowhere last v spells.0 (At at Range) spells.3 out, here ∙ spells.4))
      | inr on ↦ (
        spells.0,
        spells.1,
        v.whole,
        spells.2,
        spells.3,
        inr (on.0, step_found last v on.0 spells.0 near.0 on.1 spells.3, leads_out (place + length spells.0) lasts spells.1 vs at near.1 spells.5 on.2),
      )
    ]

-- ---- segments

many : (place : ℕ) (bytes : List ℕ) (vs : List Value) → SpellsValues place bytes vs → SpellsMany bytes (length vs)
many place bytes [] h = h
many place bytes (v ∷ vs) h = (h.0, h.1, v.whole, h.2, h.3, many (place + length h.0) h.1 vs h.5)

abbrev Judged : ℕ → Last → List Value → VlqFault → Type 0
Judged place last vs e = ((is_field_count (length vs) ≡ false) × (At place Fields ≡ e)) ⊎ ((is_field_count (length vs) ≡ true) × MovesOut (last_numbers last) vs e)

many_more : (n : ℕ) → is_field_count (n + 6) ≡ false
many_more n = grind (arith, nat_tests)

-- one step of a chain that is refused: there, or behind it
then_out : (last : ℕ) (lasts : List ℕ) (v : Value) (vs : List Value) (e : VlqFault) (f : ℕ → Result (Segment × Last) VlqFault) → (moved last v >>= f) ≡ Err e
    → ((n : ℕ) → f n ≡ Err e → MovesOut lasts vs e) → MovesOut (last ∷ lasts) (v ∷ vs) e
then_out last lasts v vs e f h behind =
    elim (bind_err (moved last v) f e h) [
      | inl out ↦ inl out
      | inr went ↦ inr (went.value, went.first, behind went.value went.then)
    ]

no_ok : (x : Segment × Last) (e : VlqFault) → ◌≡◌ {A = Result (Segment × Last) VlqFault} (Ok x) (Err e) → ⊥
no_ok x e h = cc

judged : (place : ℕ) (last : Last) (vs : List Value) (e : VlqFault) → segment_of place last vs ≡ Err e → Judged place last vs e
judged place last [] e h = inl (refl, err_same _ _ h)
judged place last (c ∷ []) e h = inr (refl, then_out last.column (last.source ∷ last.line ∷ last.original ∷ last.name ∷ []) c [] e _ h (λ n k. absurd (no_ok _ e k)))
judged place last (c ∷ s ∷ []) e h = inl (refl, err_same _ _ h)
judged place last (c ∷ s ∷ l ∷ []) e h = inl (refl, err_same _ _ h)
judged place last (c ∷ s ∷ l ∷ o ∷ []) e h =
    inr (
      refl,
      then_out last.column (last.source ∷ last.line ∷ last.original ∷ last.name ∷ []) c (s ∷ l ∷ o ∷ []) e _ h
          (λ n1 k1.
          then_out last.source (last.line ∷ last.original ∷ last.name ∷ []) s (l ∷ o ∷ []) e _ k1
          (λ n2 k2.
          then_out last.line (last.original ∷ last.name ∷ []) l (o ∷ []) e _ k2
          (λ n3 k3. then_out last.original (last.name ∷ []) o [] e _ k3 (λ n4 k4. absurd (no_ok _ e k4))))),
    )
judged place last (c ∷ s ∷ l ∷ o ∷ n ∷ []) e h =
    inr (
      refl,
      then_out last.column (last.source ∷ last.line ∷ last.original ∷ last.name ∷ []) c (s ∷ l ∷ o ∷ n ∷ []) e _ h
          (λ n1 k1.
          then_out last.source (last.line ∷ last.original ∷ last.name ∷ []) s (l ∷ o ∷ n ∷ []) e _ k1
          (λ n2 k2.
          then_out last.line (last.original ∷ last.name ∷ []) l (o ∷ n ∷ []) e _ k2
          (λ n3 k3.
          then_out last.original (last.name ∷ []) o (n ∷ []) e _ k3 (λ n4 k4. then_out last.name [] n [] e _ k4 (λ n5 k5. absurd (no_ok _ e k5)))))),
    )
judged place last (c ∷ s ∷ l ∷ o ∷ n ∷ x ∷ vs) e h =
    let six : length (c ∷ s ∷ l ∷ o ∷ n ∷ x ∷ vs) ≡ length vs + 6 = omega arith in
    inl (ap is_field_count six ∙ many_more (length vs), err_same _ _ h)

of_values : (place : ℕ) (last : Last) (bytes : List ℕ) (cause : VlqCause) (at : ℕ) → IsValueFault place bytes cause at → HasFault place last bytes cause at
of_values place last bytes Digit at h = h
of_values place last bytes Cut at h = h
of_values place last bytes Fields at h = absurd h
of_values place last bytes Range at h = absurd h

of_count : (place : ℕ) (last : Last) (bytes : List ℕ) (vs : List Value) (cause : VlqCause) (at : ℕ) → SpellsValues place bytes vs → is_field_count (length vs) ≡ false
    → At place Fields ≡ At at cause → HasFault place last bytes cause at
of_count place last bytes vs Digit at spells other e = cc
of_count place last bytes vs Cut at spells other e = cc
of_count place last bytes vs Fields at spells other e = let same : at ≡ place = cc in (length vs, many place bytes vs spells, other, same)
of_count place last bytes vs Range at spells other e = cc

of_range : (place : ℕ) (last : Last) (bytes : List ℕ) (vs : List Value) (cause : VlqCause) (at : ℕ) → cause ≡ Range → AllNear (last_numbers last) → SpellsValues place bytes vs
    → is_field_count (length vs) ≡ true → MovesOut (last_numbers last) vs (At at cause) → HasFault place last bytes cause at
of_range place last bytes vs Digit at is near spells count out = cc
of_range place last bytes vs Cut at is near spells count out = cc
of_range place last bytes vs Fields at is near spells count out = cc
of_range place last bytes vs Range at is near spells count out =
    (length vs, many place bytes vs spells, count, leads_out place (last_numbers last) bytes vs at near spells out)

segment_refused : (place : ℕ) (last : Last) (bytes : List ℕ) (cause : VlqCause) (at : ℕ) → AllNear (last_numbers last) → segment_at place last bytes ≡ Err (At at cause)
    → HasFault place last bytes cause at
segment_refused place last bytes cause at near e =
    elim (bind_err (values place bytes) (segment_of place last) (At at cause) e) [
      | inl h ↦ of_values place last bytes cause at (values_refused place bytes cause at h)
      | inr went ↦
          let spells = values_found place bytes went.value went.first in
          elim (judged place last went.value (At at cause) went.then) [
            | inl other ↦ of_count place last bytes went.value cause at spells other.0 other.1
            | inr out ↦
                of_range place last bytes went.value cause at (out_is_range (last_numbers last) went.value cause at out.1) near spells out.0 out.1
          ]
    ]

-- ---- lines

line_refused : (place : ℕ) (last : Last) (pieces : List (List ℕ)) (cause : VlqCause) (at : ℕ) → AllNear (last_numbers last) → segments_at place last pieces ≡ Err (At at cause)
    → LineHasFault place last pieces cause at
line_refused place last [] cause at near e = cc
line_refused place last ([] ∷ pieces) cause at near e = line_refused (place + 1) last pieces cause at near e
line_refused place last ((b ∷ bs) ∷ pieces) cause at near e =
    let further = place + length (b ∷ bs) + 1 in
    elim (bind_err (segment_at place last (b ∷ bs)) (λ s. segments_at further s.1 pieces >>= with_segment s.0) (At at cause) e) [
      | inl h ↦ inl (segment_refused place last (b ∷ bs) cause at near h)
      | inr went ↦
          let found = segment_found place last (b ∷ bs) went.value near went.first in
          elim (bind_err (segments_at further went.value.1 pieces) (with_segment went.value.0) (At at cause) went.then) [
            | inl h ↦
                inr (
                  went.value.0,
                  found.spells,
                  subst (λ (l : Last). LineHasFault further l pieces cause at) found.then (line_refused further went.value.1 pieces cause at found.near h),
                )
            | inr on ↦ let h = on.then in cc
          ]
    ]

pub lines_refused : (place : ℕ) (last : Last) (texts : List (List ℕ)) (cause : VlqCause) (at : ℕ) → AllNear (last_numbers last) → lines_at place last texts ≡ Err (At at cause)
    → LinesHaveFault place last texts cause at
lines_refused place last [] cause at near e = cc
lines_refused place last (text ∷ texts) cause at near e =
    let further = place + length text + 1 in
    elim (bind_err (segments_at place last (slice_split is_comma text)) (λ s. lines_at further (next_line s.1) texts >>= with_line s.0) (At at cause) e) [
      | inl h ↦ inl (line_refused place last (slice_split is_comma text) cause at near h)
      | inr went ↦
          let found = line_found place last (slice_split is_comma text) went.value near went.first in
          let next : AllNear (last_numbers (next_line went.value.1)) = (omega arith, found.near.1) in
          elim (bind_err (lines_at further (next_line went.value.1) texts) (with_line went.value.0) (At at cause) went.then) [
            | inl h ↦
                inr (
                  went.value.0,
                  found.spells,
                  subst (λ (l : Last). LinesHaveFault further (next_line l) texts cause at) found.then (lines_refused further (next_line went.value.1) texts cause at next h),
                )
            | inr on ↦ let h = on.then in cc
          ]
    ]
