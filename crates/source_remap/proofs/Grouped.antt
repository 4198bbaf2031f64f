-- Items that are put under their sources, one behind the other.
use Rattle.std.proofs.Common.{◌≡◌, ◌≢◌, ℕ, ◌<◌, ◌+◌, List, [], ◌∷◌, ◌++◌, length, get_or, take, sym, ap, ◌∙◌, subst, inl, inr}
use Rattle.std.specs.Prelude.{Option, None, Some, option_and_then, option_map, filter_map, ◌==◌, if◌then◌else◌}
use Rattle.std.proofs.lemmas.Bool.{cases_eq, eq-eqb, ne_eqb}
use Rattle.std.proofs.lemmas.List.{append-nil, take_more}
use Rattle.std.proofs.lemmas.List.Elements.{filter_map-append}
use Rattle.utf16_lines.specs.Table.{Table}
use Rattle.utf16_lines.specs.Lines.{offset}
use Rattle.vlq_mappings.specs.declared.Origin.{Origin}
use Rattle.source_maps.specs.declared.map.MapSegment.{MapSegment}
use Rattle.source_remap.specs.declared.lines.Landing.{Landing}
use Rattle.source_remap.specs.Origins.{generated_spot, landing_at, landing_of}
use Rattle.source_remap.specs.Groups.{of_source, AreBySource}

-- what `put` leaves
abbrev pub IsPut : {A : Type 0} → List (List A) → List (List A) → ℕ → A → Type 0
IsPut old new source item = (k : ℕ) → of_source new k ≡ (if k == source then of_source old k ++ item ∷ [] else of_source old k)

given-some : {X A : Type 0} (h : X → Option A) (x : X) (item : A) → h x ≡ Some item → filter_map h (x ∷ []) ≡ item ∷ []
given-some h x item is = cc

given-none : {X A : Type 0} (h : X → Option A) (x : X) → h x ≡ None → filter_map h (x ∷ []) ≡ []
given-none h x is = cc

pub grouped-put : {X A : Type 0} (given : ℕ → X → Option A) (xs : List X) (x : X) (source : ℕ) (item : A) (old new : List (List A)) → IsPut old new source item
    → given source x ≡ Some item → ((k : ℕ) → k ≢ source → given k x ≡ None) → AreBySource given xs old → AreBySource given (xs ++ x ∷ []) new
grouped-put given xs x source item old new put here others so_far k =
    put k
    ∙ elim (cases_eq k source) [
      | inl e ↦
          ap (λ t. if t then of_source old k ++ item ∷ [] else of_source old k) (eq-eqb k source e)
          ∙ ap (λ l. l ++ item ∷ []) (so_far k)
          ∙ ap (λ end. filter_map (given k) xs ++ end) (sym (given-some (given k) x item (ap (λ n. given n x) e ∙ here)))
          ∙ sym (filter_map-append (given k) xs (x ∷ []))
      | inr other ↦
          ap (λ t. if t then of_source old k ++ item ∷ [] else of_source old k) (ne_eqb k source other)
          ∙ so_far k
          ∙ sym (filter_map-append (given k) xs (x ∷ []) ∙ ap (λ end. filter_map (given k) xs ++ end) (given-none (given k) x (others k other)) ∙ append-nil (filter_map (given k) xs))
    ]

pub grouped-same : {X A : Type 0} (given : ℕ → X → Option A) (xs : List X) (x : X) (lists : List (List A)) → ((k : ℕ) → given k x ≡ None)
    → AreBySource given xs lists → AreBySource given (xs ++ x ∷ []) lists
grouped-same given xs x lists none so_far k =
    so_far k ∙ sym (filter_map-append (given k) xs (x ∷ []) ∙ ap (λ end. filter_map (given k) xs ++ end) (given-none (given k) x (none k)) ∙ append-nil (filter_map (given k) xs))

-- ---- landings

-- what a slice's place past the end reads as
abbrev pub no_segment : MapSegment
no_segment = record { line = 0; column = 0; origin = None }

take-grouped : {X A : Type 0} (given : ℕ → X → Option A) (xs : List X) (i : ℕ) (d : X) (lists : List (List A)) → i < length xs
    → AreBySource given (take i xs ++ get_or xs i d ∷ []) lists → AreBySource given (take (i + 1) xs) lists
take-grouped given xs i d lists lt = subst (λ ys. AreBySource given ys lists) (sym (take_more xs i d lt))

elsewhere : (generated : Table) (k : ℕ) (s : MapSegment) (o : Origin) → s.origin ≡ Some o → k ≢ o.source → landing_of generated k s ≡ None
elsewhere generated k s o is other =
    ap (option_and_then (λ (o : Origin). if o.source == k then option_map (landing_at o) (offset generated (generated_spot s)) else None)) is
    ∙ ap (λ t. if t then option_map (landing_at o) (offset generated (generated_spot s)) else None) (ne_eqb o.source k (λ e. other (sym e)))

pub landed-none : (generated : Table) (segments : List MapSegment) (i : ℕ) (d : MapSegment) (found : List (List Landing)) → i < length segments
    → (get_or segments i d).origin ≡ None → AreBySource (landing_of generated) (take i segments) found → AreBySource (landing_of generated) (take (i + 1) segments) found
landed-none generated segments i d found lt is so_far =
    take-grouped (landing_of generated) segments i d found lt
    (grouped-same (landing_of generated) (take i segments) (get_or segments i d) found
    (λ k. ap (option_and_then (λ (o : Origin). if o.source == k then option_map (landing_at o) (offset generated (generated_spot (get_or segments i d))) else None)) is) so_far)

pub landed-past : (generated : Table) (segments : List MapSegment) (i : ℕ) (d : MapSegment) (o : Origin) (found : List (List Landing)) → i < length segments
    → (get_or segments i d).origin ≡ Some o → landing_of generated o.source (get_or segments i d) ≡ None
    → AreBySource (landing_of generated) (take i segments) found → AreBySource (landing_of generated) (take (i + 1) segments) found
landed-past generated segments i d o found lt is past so_far =
    let s = get_or segments i d in
    take-grouped (landing_of generated) segments i d found lt
    (grouped-same (landing_of generated) (take i segments) s found
    (λ k. elim (cases_eq k o.source) [ inl e ↦ ap (λ n. landing_of generated n s) e ∙ past | inr other ↦ elsewhere generated k s o is other ]) so_far)

pub landed-more : (generated : Table) (segments : List MapSegment) (i : ℕ) (d : MapSegment) (o : Origin) (landing : Landing) (old new : List (List Landing)) → i < length segments
    → (get_or segments i d).origin ≡ Some o → landing_of generated o.source (get_or segments i d) ≡ Some landing → IsPut old new o.source landing
    → AreBySource (landing_of generated) (take i segments) old → AreBySource (landing_of generated) (take (i + 1) segments) new
landed-more generated segments i d o landing old new lt is at put so_far =
    let s = get_or segments i d in
    take-grouped (landing_of generated) segments i d new lt
    (grouped-put (landing_of generated) (take i segments) s o.source landing old new put at (λ k other. elsewhere generated k s o is other) so_far)
