-- What is read is spelled so.
use Rattle.std.proofs.Common.{◌≡◌, ℕ, ◌+◌, ◌*◌, ◌-◌, ◌/◌, ◌%◌, ◌<◌, ◌≤◌, true, false, List, [], ◌∷◌, ◌++◌, length, refl, sym, ap, subst, ◌∙◌, inl, inr, arith}
use Rattle.std.specs.Prelude.{Option, None, Some, Result, Ok, ◌==◌}
use Rattle.std.proofs.lemmas.Bool.{cases_lt, cases_Bool, lt-ltb, le-ltb}
use Rattle.std.proofs.lemmas.Bool.Decides.{nat_tests}
use Rattle.vlq_mappings.specs.declared.Segment.{Segment}
use Rattle.vlq_mappings.specs.declared.VlqFault.{VlqFault}
use Rattle.vlq_mappings.specs.declared.VlqCause.TheVariants.{Digit, Range}
use Rattle.vlq_mappings.specs.declared.values.Value.{Value}
use Rattle.vlq_mappings.specs.declared.last.Last.{Last}
use Rattle.vlq_mappings.specs.Faults.{◌>>=◌, fault, or_fault}
use Rattle.vlq_mappings.specs.Kept.{most}
use Rattle.vlq_mappings.specs.Digits.{digit, Spells, value, values, with_digit, lengthened}
use Rattle.vlq_mappings.specs.Mappings.{moved, segment_of}
use Rattle.vlq_mappings.specs.Grammar.{Leads, LeadsToEach, numbers, last_numbers, behind}
use Rattle.vlq_mappings.proofs.Binds.{bound, ok_same}

-- ---- values

-- bytes that spell these values, one after another, from a place on
abbrev pub SpellsValues : ℕ → List ℕ → List Value → Type 0
SpellsValues place bytes [] = bytes ≡ []
SpellsValues place bytes (v ∷ vs) = (front : List ℕ) × (back : List ℕ) × (bytes ≡ front ++ back) × Spells front v.whole × (v.place ≡ place) × SpellsValues (place + length front) back vs

pub digit_below : (b d : ℕ) → digit b ≡ Some d → d < 64
digit_below b d e = grind (arith, nat_tests)

-- a digit before a value that is spelled
longer : (b d : ℕ) (front : List ℕ) (whole : ℕ) → digit b ≡ Some d → 32 ≤ d → Spells front whole → Spells (b ∷ front) (d - 32 + 32 * whole)
longer b d [] whole worth le h = absurd h
longer b d (c ∷ cs) whole worth le h =
    let lt = digit_below b d worth in
    let e : d - 32 + 32 ≡ d = omega arith in
    (d - 32, whole, omega arith, rw e worth, refl, h)

lengthens : (place b d : ℕ) (bs : List ℕ) (ws vs : List Value) → digit b ≡ Some d → 32 ≤ d → SpellsValues (place + 1) bs ws → lengthened place (d - 32) ws ≡ Ok vs → SpellsValues place (b ∷ bs) vs
lengthens place b d bs [] vs worth le rest e = cc
lengthens place b d bs (w ∷ ws) vs worth le rest e =
    let same : value place (d - 32 + 32 * w.whole) ∷ ws ≡ vs = ok_same _ _ e in
    let further : place + 1 + length rest.0 ≡ place + length (b ∷ rest.0) = omega arith in
    subst (SpellsValues place (b ∷ bs)) same
    (b ∷ rest.0, rest.1, ap (λ t. b ∷ t) rest.2, longer b d rest.0 w.whole worth le rest.3, refl, subst (λ (n : ℕ). SpellsValues n rest.1 ws) further rest.5)

one_more : (place b d : ℕ) (bs : List ℕ) (ws vs : List Value) → digit b ≡ Some d → SpellsValues (place + 1) bs ws → with_digit place d ws ≡ Ok vs → SpellsValues place (b ∷ bs) vs
one_more place b d bs ws vs worth rest e =
    elim (cases_lt d 32) [
      | inl lt ↦
          let small : with_digit place d ws ≡ Ok (value place d ∷ ws) = rw (lt-ltb d 32 lt) refl in
          let same : value place d ∷ ws ≡ vs = ok_same _ _ (sym small ∙ e) in
          subst (SpellsValues place (b ∷ bs)) same (b ∷ [], bs, refl, (lt, worth), refl, rest)
      | inr le ↦
          let big : with_digit place d ws ≡ lengthened place (d - 32) ws = rw (le-ltb d 32 le) refl in
          lengthens place b d bs ws vs worth le rest (sym big ∙ e)
    ]

there : (place b : ℕ) (x : Option ℕ) (f : ℕ → Result (List Value) VlqFault) (vs : List Value) → (or_fault place Digit x >>= f) ≡ Ok vs → (d : ℕ) × (x ≡ Some d) × (f d ≡ Ok vs)
there place b None f vs e = cc
there place b (Some d) f vs e = (d, refl, e)

pub values_found : (place : ℕ) (bytes : List ℕ) (vs : List Value) → values place bytes ≡ Ok vs → SpellsValues place bytes vs
values_found place [] [] e = refl
values_found place [] (v ∷ vs) e = cc
values_found place (b ∷ bs) vs e =
    let t = there place b (digit b) (λ d. values (place + 1) bs >>= with_digit place d) vs e in
    let r = bound (values (place + 1) bs) (with_digit place t.0) vs t.2 in
    one_more place b t.0 bs r.value vs t.1 (values_found (place + 1) bs r.value r.first) r.then

-- ---- steps

pub step_falls : (last : ℕ) (v : Value) → v.whole / 2 ≤ most → (v.whole % 2 == 1) ≡ true → v.whole / 2 ≤ last → moved last v ≡ Ok (last - v.whole / 2)
step_falls last v near odd le = rw (le-ltb most (v.whole / 2) near, odd, le-ltb last (v.whole / 2) le) refl

falls_below : (last : ℕ) (v : Value) → v.whole / 2 ≤ most → (v.whole % 2 == 1) ≡ true → last < v.whole / 2 → moved last v ≡ fault v.place Range
falls_below last v near odd lt = rw (le-ltb most (v.whole / 2) near, odd, lt-ltb last (v.whole / 2) lt) refl

pub step_rises : (last : ℕ) (v : Value) → v.whole / 2 ≤ most → (v.whole % 2 == 1) ≡ false → last + v.whole / 2 ≤ most → moved last v ≡ Ok (last + v.whole / 2)
step_rises last v near even le = rw (le-ltb most (v.whole / 2) near, even, le-ltb most (last + v.whole / 2) le) refl

rises_above : (last : ℕ) (v : Value) → v.whole / 2 ≤ most → (v.whole % 2 == 1) ≡ false → most < last + v.whole / 2 → moved last v ≡ fault v.place Range
rises_above last v near even lt = rw (le-ltb most (v.whole / 2) near, even, lt-ltb most (last + v.whole / 2) lt) refl

too_far : (last : ℕ) (v : Value) → most < v.whole / 2 → moved last v ≡ fault v.place Range
too_far last v lt = rw (lt-ltb most (v.whole / 2) lt) refl

odd_is : (w : ℕ) → (w % 2 == 1) ≡ true → w ≡ 2 * (w / 2) + 1
odd_is w e = grind (arith, nat_tests)

even_is : (w : ℕ) → (w % 2 == 1) ≡ false → w ≡ 2 * (w / 2)
even_is w e = grind (arith, nat_tests)

pub step_found : (last : ℕ) (v : Value) (n : ℕ) (bytes : List ℕ) → last ≤ most → moved last v ≡ Ok n → Spells bytes v.whole → Leads last bytes n
step_found last v n bytes old e spells =
    elim (cases_lt most (v.whole / 2)) [
      | inl lt ↦ let f = too_far last v lt in cc
      | inr near ↦
          elim (cases_Bool (v.whole % 2 == 1)) [
            | inl odd ↦
                elim (cases_lt last (v.whole / 2)) [
                  | inl lt ↦ let f = falls_below last v near odd lt in cc
                  | inr le ↦
                      let same : last - v.whole / 2 ≡ n = ok_same _ _ (sym (step_falls last v near odd le) ∙ e) in
                      (v.whole / 2, near, omega arith, inr (subst (Spells bytes) (odd_is v.whole odd) spells, omega arith))
                ]
            | inr even ↦
                elim (cases_lt most (last + v.whole / 2)) [
                  | inl lt ↦ let f = rises_above last v near even lt in cc
                  | inr le ↦
                      let same : last + v.whole / 2 ≡ n = ok_same _ _ (sym (step_rises last v near even le) ∙ e) in
                      (v.whole / 2, near, omega arith, inl (subst (Spells bytes) (even_is v.whole even) spells, sym same))
                ]
          ]
    ]

-- ---- segments

-- each value leads to its number
abbrev pub AllMoved : List ℕ → List Value → List ℕ → Type 0
AllMoved lasts [] [] = Unit {0}
AllMoved lasts [] (n ∷ ns) = ⊥
AllMoved lasts (v ∷ vs) [] = ⊥
AllMoved [] (v ∷ vs) (n ∷ ns) = ⊥
AllMoved (last ∷ lasts) (v ∷ vs) (n ∷ ns) = (moved last v ≡ Ok n) × AllMoved lasts vs ns

abbrev pub AllNear : List ℕ → Type 0
AllNear [] = Unit {0}
AllNear (n ∷ ns) = (n ≤ most) × AllNear ns

pub each_found : (place : ℕ) (lasts : List ℕ) (vs : List Value) (ns : List ℕ) (bytes : List ℕ) → AllNear lasts → AllMoved lasts vs ns → SpellsValues place bytes vs → LeadsToEach lasts bytes ns
each_found place lasts [] [] bytes near h spells = spells
each_found place lasts [] (n ∷ ns) bytes near h spells = absurd h
each_found place lasts (v ∷ vs) [] bytes near h spells = absurd h
each_found place [] (v ∷ vs) (n ∷ ns) bytes near h spells = absurd h
each_found place (last ∷ lasts) (v ∷ vs) (n ∷ ns) bytes near h spells =
    (spells.0, spells.1, spells.2, step_found last v n spells.0 near.0 h.0 spells.3, each_found (place + length spells.0) lasts vs ns spells.1 near.1 h.1 spells.5)

pub record SegmentFound (last : Last) (vs : List Value) (x : Segment × Last) : Type 0 where
  pub all_moved : AllMoved (last_numbers last) vs (numbers x.0)
  pub then : x.1 ≡ behind last x.0

same_found : (last : Last) (vs : List Value) (made x : Segment × Last) → ◌≡◌ {A = Result (Segment × Last) VlqFault} (Ok made) (Ok x) → AllMoved (last_numbers last) vs (numbers made.0)
    → made.1 ≡ behind last made.0 → SegmentFound last vs x
same_found last vs made x e all then = subst (SegmentFound last vs) (ok_same made x e) (record { all_moved = all; then = then })

pub segment_moved : (place : ℕ) (last : Last) (vs : List Value) (x : Segment × Last) → segment_of place last vs ≡ Ok x → SegmentFound last vs x
segment_moved place last [] x e = cc
segment_moved place last (c ∷ []) x e =
    let a = bound (moved last.column c) _ x e in
    same_found last (c ∷ []) (record { column = a.value; origin = None }, record last { column = a.value }) x a.then (a.first, tt) refl
segment_moved place last (c ∷ s ∷ []) x e = cc
segment_moved place last (c ∷ s ∷ l ∷ []) x e = cc
segment_moved place last (c ∷ s ∷ l ∷ o ∷ []) x e =
    let a = bound (moved last.column c) _ x e in
    let b = bound (moved last.source s) _ x a.then in
    let d = bound (moved last.line l) _ x b.then in
    let f = bound (moved last.original o) _ x d.then in
    same_found last (c ∷ s ∷ l ∷ o ∷ [])
    (record { column = a.value; origin = Some (record { source = b.value; line = d.value; column = f.value; name = None }) }, record last { column = a.value; source = b.value; line = d.value; original = f.value }) x f.then (a.first, (b.first, (d.first, (f.first, tt)))) refl
segment_moved place last (c ∷ s ∷ l ∷ o ∷ n ∷ []) x e =
    let a = bound (moved last.column c) _ x e in
    let b = bound (moved last.source s) _ x a.then in
    let d = bound (moved last.line l) _ x b.then in
    let f = bound (moved last.original o) _ x d.then in
    let g = bound (moved last.name n) _ x f.then in
    same_found last (c ∷ s ∷ l ∷ o ∷ n ∷ [])
    (record { column = a.value; origin = Some (record { source = b.value; line = d.value; column = f.value; name = Some g.value }) }, record { column = a.value; source = b.value; line = d.value; original = f.value; name = g.value }) x g.then (a.first, (b.first, (d.first, (f.first, (g.first, tt))))) refl
segment_moved place last (c ∷ s ∷ l ∷ o ∷ n ∷ y ∷ vs) x e = cc
