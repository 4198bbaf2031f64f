-- What a look-up by the parts of a key finds.
use Rattle.std.proofs.Common.{◌≡◌, ℕ, Bool, true, false, List, [], ◌∷◌, map, refl, sym, ap, ◌∙◌, subst, Bor}
use Rattle.std.specs.Prelude.{Option, None, Some, option_map, is_none, IfSome, not, cond, ◌||◌}
use Rattle.std.specs.Option.{option_copied}
use Rattle.std.specs.List.{list_any}
use Rattle.std.specs.Map.{lookup}
use Rattle.cov_model.specs.declared.snapshot.Snapshot.{Snapshot}
use Rattle.cov_model.specs.declared.sums.Key.{Key}
use Rattle.cov_model.specs.Held.{Held, FunctionSums, StandsFor}
use Rattle.cov_model.specs.Normal.{maximal_runs}
use Rattle.cov_model.specs.Sums.{same_key, keys_in_order, total}
use Rattle.cov_book.specs.declared.sums.Sums.{Sums}
use Rattle.cov_book.specs.Entries.{IsBook, sums_at, key_sums, entries_of, spread}
use Rattle.cov_book.specs.Prepared.{IsAligned, AreAligned}
use Rattle.cov_book.proofs.Ordered.{same-is}
use Rattle.cov_book.proofs.Seen.{view, stands-agree, agree-sums}

-- ---- options

pub looked : {A B : Type 0} (r : Option (Bor A)) (o : Option B) (f : B → A) → option_copied r ≡ option_map f o
    → (P : A → Type 0) → ((b : B) → o ≡ Some b → P (f b)) → IfSome r (λ x. P x.now)
looked None o f e P h = tt
looked (Some x) None f e P h = absurd cc
looked (Some x) (Some b) f e P h = let is : x.now ≡ f b = cc in subst P (sym is) (h b refl)

none-same : {A B : Type 0} (r : Option (Bor A)) (o : Option B) (f : B → A) → option_copied r ≡ option_map f o → is_none r ≡ is_none o
none-same None None f e = refl
none-same None (Some b) f e = absurd cc
none-same (Some x) None f e = absurd cc
none-same (Some x) (Some b) f e = refl

-- ---- entries

none-named : (k : Key) (es : List (Key × Sums)) → is_none (lookup (same_key k) es) ≡ not (list_any (λ (s : FunctionSums). same_key k s.key) (map spread es))
none-named k [] = refl
none-named k (e ∷ es) =
    elim (same_key k e.0) as (λ b. is_none (cond b (Some e.1) (lookup (same_key k) es)) ≡ not (b || list_any (λ (s : FunctionSums). same_key k s.key) (map spread es))) [
      | true ↦ refl
      | false ↦ none-named k es
    ]

pub aligned-named : (k : Key) (es : List (Key × Sums)) (s : Sums) → AreAligned es → lookup (same_key k) es ≡ Some s → IsAligned (k, s)
aligned-named k [] s h is = absurd cc
aligned-named k (e ∷ es) s h is = by (same_key k e.0) refl is (aligned-named k es s h.1)
  where
    by : (b : Bool) → same_key k e.0 ≡ b → cond b (Some e.1) (lookup (same_key k) es) ≡ Some s → (lookup (same_key k) es ≡ Some s → IsAligned (k, s)) → IsAligned (k, s)
    by true here found rest = let value : e.1 ≡ s = cc in subst IsAligned (λ i. (sym (same-is k e.0 here) i, value i)) h.0
    by false other found rest = rest found

sums-named : (held : List Snapshot) (k : Key) (ks : List Key) (s : Sums) → lookup (same_key k) (map (key_sums held) ks) ≡ Some s → s ≡ sums_at held k
sums-named held k [] s is = absurd cc
sums-named held k (y ∷ ys) s is = by (same_key k y) refl is (sums-named held k ys s)
  where
    by : (b : Bool) → same_key k y ≡ b → cond b (Some (sums_at held y)) (lookup (same_key k) (map (key_sums held) ys)) ≡ Some s
        → (lookup (same_key k) (map (key_sums held) ys) ≡ Some s → s ≡ sums_at held k) → s ≡ sums_at held k
    by true here found rest = let value : sums_at held y ≡ s = cc in sym value ∙ ap (sums_at held) (sym (same-is k y here))
    by false other found rest = rest found

list-named : (held : List Snapshot) (k : Key) (s : Sums) → lookup (same_key k) (entries_of held) ≡ Some s → s ≡ sums_at held k
unfolding entries_of
list-named held k s is = sums-named held k (keys_in_order held) s is

-- ---- what a book holds of a key

module _ (urls : List (List ℕ)) (entries : List (Key × Sums)) (now : Held) (b : IsBook urls entries) (seen : view urls entries ≡ now) (k : Key) where
  pub held-none : {A : Type 0} (r : Option (Bor A)) (f : Sums → A) → option_copied r ≡ option_map f (lookup (same_key k) entries)
      → is_none r ≡ not (list_any (λ (s : FunctionSums). same_key k s.key) now.functions)
  held-none r f e =
      none-same r (lookup (same_key k) entries) f e
      ∙ none-named k entries
      ∙ ap (λ (h : Held). not (list_any (λ (s : FunctionSums). same_key k s.key) h.functions)) seen

  pub held-runs : (s : Sums) → lookup (same_key k) entries ≡ Some s → (held : List Snapshot) → StandsFor now held → s.runs.runs ≡ maximal_runs k.start k.end (total held k)
  held-runs s is held stands =
      let own : s ≡ sums_at b.held k = list-named b.held k s (sym (ap (lookup (same_key k)) b.entries_are) ∙ is) in
      ap (λ (x : Sums). x.runs.runs) (own ∙ agree-sums b.held held (stands-agree urls entries now b seen held stands) k)
