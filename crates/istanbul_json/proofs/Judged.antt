-- Maps and their counts that were made of one list: their keys are the same, and they make up that list again.
use Rattle.std.proofs.Common.{◌≡◌, ℕ, Bool, true, false, List, [], ◌∷◌, length, map, refl, sym, ap, ◌∙◌}
use Rattle.std.specs.Prelude.{Result, Ok, ◌==◌, ◌&&◌}
use Rattle.std.specs.Ordering.{is_eq}
use Rattle.std.specs.List.{list_all, zip}
use Rattle.std.proofs.lemmas.Cmp.{nat_list_cmp_total, tied_itself, nat_eq_equiv}
use Rattle.std.proofs.lemmas.Map.Text.{is_eq-slice_cmp}
use Rattle.cov_text.specs.Listing.{same_text}
use Rattle.json_shapes.specs.Shapes.{◌>>=◌}
use Rattle.istanbul_json.specs.declared.file.FileParts.{FileParts}
use Rattle.istanbul_json.specs.declared.file.Statement.{Statement}
use Rattle.istanbul_json.specs.declared.file.Function.{Function}
use Rattle.istanbul_json.specs.declared.file.Branch.{Branch}
use Rattle.istanbul_json.specs.declared.file.CoverageFault.{CoverageFault}
use Rattle.istanbul_json.specs.declared.file.CoverageFault.TheVariants.{Keys}
use Rattle.istanbul_json.specs.declared.file.CoverageField.TheVariants.{S, F, B}
use Rattle.istanbul_json.specs.Coverage.{fault_unless, same_keys, as_many_counts, statement, function, branch}
use Rattle.istanbul_json.specs.Kept.{by_key}
use Rattle.istanbul_json.specs.Walks.{function_entry, branch_entry, shown_by}

pub text-same : (a : List ℕ) → same_text a a ≡ true
text-same a = sym (is_eq-slice_cmp a a) ∙ ap is_eq (tied_itself nat_list_cmp_total a)

pub keys-same : {A C D : Type 0} (key : A → List ℕ) (f : A → C) (g : A → D) (xs : List A) → same_keys (map (λ x. (key x, f x)) xs) (map (λ x. (key x, g x)) xs) ≡ true
keys-same key f g [] = refl
keys-same key f g (x ∷ xs) = ap (λ t. t && same_keys (map (λ x. (key x, f x)) xs) (map (λ x. (key x, g x)) xs)) (text-same (key x)) ∙ keys-same key f g xs

abbrev pub has_all_counts : Branch → Bool
has_all_counts b = length b.counts == length b.locations

both-parts : (a b : Bool) → (a && b) ≡ true → (a ≡ true) × (b ≡ true)
both-parts true b e = (refl, e)
both-parts false b e = cc

pub as-many : (bs : List Branch) → list_all has_all_counts bs ≡ true → as_many_counts (map (λ b. (b.key, branch_entry b)) bs) (map (λ b. (b.key, b.counts)) bs) ≡ true
as-many [] h = refl
as-many (b ∷ bs) h =
    let parts = both-parts (has_all_counts b) (list_all has_all_counts bs) h in
    ap (λ t. t && as_many_counts (map (λ c. (c.key, branch_entry c)) bs) (map (λ c. (c.key, c.counts)) bs)) (nat_eq_equiv.symm (length b.locations) (length b.counts) ∙ parts.0) ∙ as-many bs parts.1

pub statements-made : (xs : List Statement) → map statement (zip (map (λ s. (s.key, s.loc)) xs) (map (λ s. (s.key, s.count)) xs)) ≡ xs
statements-made [] = refl
statements-made (x ∷ xs) = ap (λ (l : List Statement). x ∷ l) (statements-made xs)

pub functions-made : (xs : List Function) → map function (zip (map (λ f. (f.key, function_entry f)) xs) (map (λ f. (f.key, f.count)) xs)) ≡ xs
functions-made [] = refl
functions-made (x ∷ xs) = ap (λ (l : List Function). x ∷ l) (functions-made xs)

pub branches-made : (xs : List Branch) → map branch (zip (map (λ b. (b.key, branch_entry b)) xs) (map (λ b. (b.key, b.counts)) xs)) ≡ xs
branches-made [] = refl
branches-made (x ∷ xs) = ap (λ (l : List Branch). x ∷ l) (branches-made xs)

-- what is made of members whose keys and numbers are judged
abbrev pub judged : ℕ → List ℕ → Bool → Bool → Bool → List Statement → List Function → List Branch → Result FileParts CoverageFault
judged k path s_same f_same b_same statements functions branches = do
  _s ← fault_unless s_same (Keys k S)
  _f ← fault_unless f_same (Keys k F)
  _b ← fault_unless b_same (Keys k B)
  Ok (record { path = path; statements = statements; functions = functions; branches = branches })

-- the file of these lists, whatever order they stand in
pub judged-is : (k : ℕ) (path : List ℕ) (ss statements : List Statement) (fs functions : List Function) (bs branches : List Branch)
    → by_key (λ s. s.key) ss ≡ statements → by_key (λ f. f.key) fs ≡ functions → by_key (λ b. b.key) bs ≡ branches → list_all has_all_counts bs ≡ true
    → judged k path (same_keys (shown_by (λ s. s.key) (λ s. s.loc) ss) (shown_by (λ s. s.key) (λ s. s.count) ss))
    (same_keys (shown_by (λ f. f.key) function_entry fs) (shown_by (λ f. f.key) (λ f. f.count) fs))
    (same_keys (shown_by (λ b. b.key) branch_entry bs) (shown_by (λ b. b.key) (λ b. b.counts) bs) && as_many_counts (shown_by (λ b. b.key) branch_entry bs) (shown_by (λ b. b.key) (λ b. b.counts) bs))
    (by_key (λ s. s.key) (map statement (zip (shown_by (λ s. s.key) (λ s. s.loc) ss) (shown_by (λ s. s.key) (λ s. s.count) ss))))
    (by_key (λ f. f.key) (map function (zip (shown_by (λ f. f.key) function_entry fs) (shown_by (λ f. f.key) (λ f. f.count) fs))))
    (by_key (λ b. b.key) (map branch (zip (shown_by (λ b. b.key) branch_entry bs) (shown_by (λ b. b.key) (λ b. b.counts) bs))))
    ≡ Ok (record { path = path; statements = statements; functions = functions; branches = branches })
judged-is k path ss statements fs functions bs branches s_is f_is b_is many =
    let s_same = keys-same (λ (s : Statement). s.key) (λ s. s.loc) (λ s. s.count) ss in
    let f_same = keys-same (λ (g : Function). g.key) function_entry (λ g. g.count) fs in
    let b_same = keys-same (λ (b : Branch). b.key) branch_entry (λ b. b.counts) bs in
    let all = as-many bs many in
    let s_made = ap (by_key (λ (s : Statement). s.key)) (statements-made ss) ∙ s_is in
    let f_made = ap (by_key (λ (g : Function). g.key)) (functions-made fs) ∙ f_is in
    let b_made = ap (by_key (λ (b : Branch). b.key)) (branches-made bs) ∙ b_is in
    λ i. judged k path (s_same i) (f_same i) (b_same i && all i) (s_made i) (f_made i) (b_made i)
