-- The JSON of files has no float, and nests seven deep.
use Rattle.std.proofs.Common.{◌≡◌, ℕ, suc, ◌≤◌, Bool, true, false, List, [], ◌∷◌, Option, Some, None, refl, ap, ◌∙◌, arith}
use Rattle.std.specs.Prelude.{◌||◌, max}
use Rattle.std.specs.declared.cmp.Ordering.TheVariants.{Less, Equal, Greater}
use Rattle.std.specs.Ordering.{match_ordering, nat_cmp}
use Rattle.std.specs.Cmp.Lexicographic.{slice_cmp}
use Rattle.std.proofs.Math.Nat.{max-le, le-max_left, le-max_right}
use Rattle.serde_json.specs.Data.{Data, array, object, Members, no_members, member, put, depth, items_depth, members_depth}
use Rattle.serde_json.specs.Written.{has_float, items_have_float, members_have_float}
use Rattle.json_shapes.specs.Shapes.{array_of}
use Rattle.istanbul_json.specs.declared.file.Mark.{Mark}
use Rattle.istanbul_json.specs.declared.file.Loc.{Loc}
use Rattle.istanbul_json.specs.declared.file.Function.{Function}
use Rattle.istanbul_json.specs.declared.file.Branch.{Branch}
use Rattle.istanbul_json.specs.declared.file.FileParts.{FileParts}
use Rattle.istanbul_json.specs.Value.{count_data, number_or_null, mark_data, loc_data, function_data, branch_data, members_by, file_data}

-- ---- no float

neither : (a b : Bool) → a ≡ false → b ≡ false → (a || b) ≡ false
neither a b e f = ap (λ t. t || b) e ∙ f

none-put : (k : List ℕ) (d : Data) (ms : Members) → has_float d ≡ false → members_have_float ms ≡ false → members_have_float (put k d ms) ≡ false
none-put k d no_members e h = neither (has_float d) false e refl
none-put k d (member l x ms) e h =
    elim (slice_cmp nat_cmp k l) as (λ o. members_have_float (match_ordering o (member k d (member l x ms)) (member l d ms) (member l x (put k d ms))) ≡ false) [
      | Less ↦ neither (has_float d) (members_have_float (member l x ms)) e h
      | Equal ↦ neither (has_float d) (members_have_float ms) e (rest (has_float x) (members_have_float ms) h)
      | Greater ↦ neither (has_float x) (members_have_float (put k d ms)) (first (has_float x) (members_have_float ms) h) (none-put k d ms e (rest (has_float x) (members_have_float ms) h))
    ]
  where
    first : (a b : Bool) → (a || b) ≡ false → a ≡ false
    first true b e = cc
    first false b e = refl

    rest : (a b : Bool) → (a || b) ≡ false → b ≡ false
    rest true b e = cc
    rest false b e = e

none-members : {A : Type 0} (key : A → List ℕ) (shown : A → Data) → ((x : A) → has_float (shown x) ≡ false) → (xs : List A) → members_have_float (members_by key shown xs) ≡ false
none-members key shown none [] = refl
none-members key shown none (x ∷ xs) = none-put (key x) (shown x) (members_by key shown xs) (none x) (none-members key shown none xs)

none-array : {A : Type 0} (shown : A → Data) → ((x : A) → has_float (shown x) ≡ false) → (xs : List A) → items_have_float (array_of shown xs) ≡ false
none-array shown none [] = refl
none-array shown none (x ∷ xs) = neither (has_float (shown x)) (items_have_float (array_of shown xs)) (none x) (none-array shown none xs)

none-number : (n : Option ℕ) → has_float (number_or_null n) ≡ false
none-number None = refl
none-number (Some n) = refl

none-mark : (m : Mark) → has_float (mark_data m) ≡ false
none-mark m = λ i. none-number m.column i || (none-number m.line i || false)

none-loc : (l : Loc) → has_float (loc_data l) ≡ false
none-loc l = λ i. none-mark l.end i || (none-mark l.start i || false)

none-function : (f : Function) → has_float (function_data f) ≡ false
none-function f = λ i. none-loc f.decl i || (none-number f.line i || (none-loc f.loc i || false))

none-branch : (b : Branch) → has_float (branch_data b) ≡ false
none-branch b = λ i. none-number b.line i || (none-loc b.loc i || (none-array loc_data none-loc b.locations i || false))

none-file : (f : FileParts) → has_float (file_data f) ≡ false
unfolding file_data
none-file f = λ i.
    none-members (λ (b : Branch). b.key) (λ b. array (array_of count_data b.counts)) (λ b. none-array count_data (λ n. refl) b.counts) f.branches i
    || (none-members (λ (b : Branch). b.key) branch_data none-branch f.branches i
    || (none-members (λ (g : Function). g.key) (λ g. count_data g.count) (λ g. refl) f.functions i
    || (none-members (λ (g : Function). g.key) function_data none-function f.functions i
    || (false
    || (none-members (λ s. s.key) (λ s. count_data s.count) (λ s. refl) f.statements i
    || (none-members (λ s. s.key) (λ s. loc_data s.loc) (λ s. none-loc s.loc) f.statements i
    || false))))))

pub none-files : (fs : List FileParts) → has_float (object (members_by (λ f. f.path) file_data fs)) ≡ false
none-files fs = none-members (λ (f : FileParts). f.path) file_data none-file fs

-- ---- how deep

deep-put : (n : ℕ) (k : List ℕ) (d : Data) (ms : Members) → depth d ≤ n → members_depth ms ≤ n → members_depth (put k d ms) ≤ n
deep-put n k d no_members e h = max-le e (omega arith)
deep-put n k d (member l x ms) e h =
    elim (slice_cmp nat_cmp k l) as (λ o. members_depth (match_ordering o (member k d (member l x ms)) (member l d ms) (member l x (put k d ms))) ≤ n) [
      | Less ↦ max-le e h
      | Equal ↦ max-le e (right (depth x) (members_depth ms) h)
      | Greater ↦ max-le (left (depth x) (members_depth ms) h) (deep-put n k d ms e (right (depth x) (members_depth ms) h))
    ]
  where
    left : (a b : ℕ) → max a b ≤ n → a ≤ n
    left a b h = omega (arith, le-max_left a b)

    right : (a b : ℕ) → max a b ≤ n → b ≤ n
    right a b h = omega (arith, le-max_right a b)

deep-members : {A : Type 0} (n : ℕ) (key : A → List ℕ) (shown : A → Data) → ((x : A) → depth (shown x) ≤ n) → (xs : List A) → members_depth (members_by key shown xs) ≤ n
deep-members n key shown each [] = omega arith
deep-members n key shown each (x ∷ xs) = deep-put n (key x) (shown x) (members_by key shown xs) (each x) (deep-members n key shown each xs)

deep-array : {A : Type 0} (n : ℕ) (shown : A → Data) → ((x : A) → depth (shown x) ≤ n) → (xs : List A) → items_depth (array_of shown xs) ≤ n
deep-array n shown each [] = omega arith
deep-array n shown each (x ∷ xs) = max-le (each x) (deep-array n shown each xs)

one-deeper : (m n : ℕ) → m ≤ n → suc m ≤ suc n
one-deeper m n h = omega arith

deep-number : (n : Option ℕ) → depth (number_or_null n) ≡ 0
deep-number None = refl
deep-number (Some n) = refl

deep-mark : (m : Mark) → depth (mark_data m) ≡ 1
deep-mark m = λ i. suc (max (deep-number m.column i) (max (deep-number m.line i) 0))

deep-loc : (l : Loc) → depth (loc_data l) ≡ 2
deep-loc l = λ i. suc (max (deep-mark l.end i) (max (deep-mark l.start i) 0))

below-loc : (l : Loc) → depth (loc_data l) ≤ 2
below-loc l = let e = deep-loc l in omega arith

below-function : (f : Function) → depth (function_data f) ≤ 4
below-function f = let e : depth (function_data f) ≡ 3 = λ i. suc (max (deep-loc f.decl i) (max (deep-number f.line i) (max (deep-loc f.loc i) (max 0 0)))) in omega arith

four : (n a b c d : ℕ) → a ≤ n → b ≤ n → c ≤ n → d ≤ n → max a (max b (max c (max d 0))) ≤ n
four n a b c d h i j k = max-le h (max-le i (max-le j (max-le k (omega arith))))

below-branch : (b : Branch) → depth (branch_data b) ≤ 4
below-branch b =
    let line : depth (number_or_null b.line) ≤ 3 = let e = deep-number b.line in omega arith in
    let loc : depth (loc_data b.loc) ≤ 3 = let e = deep-loc b.loc in omega arith in
    let locations : depth (array (array_of loc_data b.locations)) ≤ 3 = one-deeper (items_depth (array_of loc_data b.locations)) 2 (deep-array 2 loc_data below-loc b.locations) in
    one-deeper (max (depth (number_or_null b.line)) (max (depth (loc_data b.loc)) (max (depth (array (array_of loc_data b.locations))) (max 0 0)))) 3
    (four 3 (depth (number_or_null b.line)) (depth (loc_data b.loc)) (depth (array (array_of loc_data b.locations))) 0 line loc locations (omega arith))

below-counts : (b : Branch) → depth (array (array_of count_data b.counts)) ≤ 4
below-counts b = one-deeper (items_depth (array_of count_data b.counts)) 3 (deep-array 3 count_data (λ n. omega arith) b.counts)

below-file : (f : FileParts) → depth (file_data f) ≤ 6
unfolding file_data
below-file f =
    one-deeper _ 5
    (max-le (one-deeper (members_depth (members_by (λ b. b.key) (λ b. array (array_of count_data b.counts)) f.branches)) 4 (deep-members 4 (λ (b : Branch). b.key) (λ b. array (array_of count_data b.counts)) below-counts f.branches))
    (max-le (one-deeper (members_depth (members_by (λ b. b.key) branch_data f.branches)) 4 (deep-members 4 (λ (b : Branch). b.key) branch_data below-branch f.branches))
    (max-le (one-deeper (members_depth (members_by (λ g. g.key) (λ g. count_data g.count) f.functions)) 4 (deep-members 4 (λ (g : Function). g.key) (λ g. count_data g.count) (λ g. omega arith) f.functions))
    (max-le (one-deeper (members_depth (members_by (λ g. g.key) function_data f.functions)) 4 (deep-members 4 (λ (g : Function). g.key) function_data below-function f.functions))
    (max-le (omega arith)
    (max-le (one-deeper (members_depth (members_by (λ s. s.key) (λ s. count_data s.count) f.statements)) 4 (deep-members 4 (λ s. s.key) (λ s. count_data s.count) (λ s. omega arith) f.statements))
    (max-le (one-deeper (members_depth (members_by (λ s. s.key) (λ s. loc_data s.loc) f.statements)) 4 (deep-members 4 (λ s. s.key) (λ s. loc_data s.loc) (λ s. let e = deep-loc s.loc in omega arith) f.statements))
    (omega arith))))))))

pub few-deep : (fs : List FileParts) → depth (object (members_by (λ f. f.path) file_data fs)) ≤ 127
few-deep fs = let h = deep-members 6 (λ (f : FileParts). f.path) file_data below-file fs in omega arith
