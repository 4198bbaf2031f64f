-- The parts make the compact text.
use Rattle.std.proofs.Common.{◌≡◌, ℕ, suc, Bool, true, false, List, [], ◌∷◌, ◌++◌, map, codes, refl, sym, ap, ◌∙◌, subst}
use Rattle.std.proofs.lemmas.List.{append_assoc}
use Rattle.json.specs.Print.{quoted, escape_byte}
use Rattle.json_shapes.specs.Shapes.{array_of}
use Rattle.serde_json.specs.Data.{Data, array, member}
use Rattle.serde_json.specs.Written.{comma_if, compact_text, items_text, members_text}
use Rattle.json_pieces.specs.Joined.{joined}
use Rattle.istanbul_json.specs.declared.file.Loc.{Loc}
use Rattle.istanbul_json.specs.declared.file.Function.{Function}
use Rattle.istanbul_json.specs.declared.file.Branch.{Branch}
use Rattle.istanbul_json.specs.declared.file.FileParts.{FileParts}
use Rattle.istanbul_json.specs.declared.file.Statement.{Statement}
use Rattle.istanbul_json.specs.Gives.{ArePathsInOrder}
use Rattle.istanbul_json.specs.Value.{count_data, loc_data, function_data, branch_data, members_by, in_turn, file_data, files_text}
use Rattle.istanbul_json.proofs.Inserted.{IsStrict, strict-in_order}
use Rattle.istanbul_json.proofs.KeyOrder.{text-total}
use Rattle.istanbul_json.proofs.ReadBack.{members-rising}
use Rattle.cov_text.specs.Listing.{text_cmp}
use Rattle.coverage_text.specs.Parts.{key_text, member_text, number_text, loc_text, function_text, before_locations, behind_locations, path_text}

-- ---- objects

module _ {A : Type 0} (key : A → List ℕ) (shown : A → Data) where
  abbrev pub as_member : ℕ → A → List ℕ
  as_member k x = member_text (key x) (shown x)

  one-member : (x : A) (rest : List ℕ) → as_member 0 x ++ rest ≡ quoted (key x) ++ 58 ∷ (compact_text (shown x) ++ rest)
  one-member x rest = append_assoc (key_text (key x)) (compact_text (shown x)) rest ∙ append_assoc (quoted (key x)) (codes ":") (compact_text (shown x) ++ rest)

  pub object-text : (later : Bool) (k : ℕ) (xs : List A) → joined as_member later k xs ++ codes "}" ≡ members_text later (in_turn key shown xs)
  object-text later k [] = refl
  object-text later k (x ∷ xs) =
      append_assoc (comma_if later) (as_member k x ++ joined as_member true (suc k) xs) (codes "}")
      ∙ ap (λ t. comma_if later ++ t) (append_assoc (as_member k x) (joined as_member true (suc k) xs) (codes "}")
      ∙ ap (λ t. as_member k x ++ t) (object-text true (suc k) xs)
      ∙ one-member x (members_text true (in_turn key shown xs)))

module _ {A B : Type 0} (f : B → A) (key : A → List ℕ) (shown : A → Data) where
  turn-map : (xs : List B) → in_turn (λ x. key (f x)) (λ x. shown (f x)) xs ≡ in_turn key shown (map f xs)
  turn-map [] = refl
  turn-map (x ∷ xs) = ap (member (key (f x)) (shown (f x))) (turn-map xs)

  -- behind what stands before the members, where they stand in order
  pub members-behind : (front : List ℕ) (items : List A) (xs : List B) → members_by key shown items ≡ in_turn key shown (map f xs)
      → front ++ (joined (as_member (λ x. key (f x)) (λ x. shown (f x))) false 0 xs ++ codes "}") ≡ front ++ members_text false (members_by key shown items)
  members-behind front items xs is =
      ap (λ t. front ++ t) (object-text (λ x. key (f x)) (λ x. shown (f x)) false 0 xs ∙ ap (members_text false) (turn-map xs ∙ sym is))

-- ---- what is put whole

pub loc-text : (l : Loc) → loc_text l ≡ compact_text (loc_data l)
unfolding escape_byte
loc-text l = refl

pub function-text : (f : Function) → function_text f ≡ compact_text (function_data f)
unfolding escape_byte
function-text f = refl

-- ---- a branch

branch-parts : (line loc kind : List ℕ) (items : List ℕ)
    → codes "{\"line\":" ++ line ++ (codes ",\"loc\":" ++ loc ++ codes ",\"locations\":[") ++ (items ++ (codes ",\"type\":" ++ kind ++ codes "}"))
    ≡ codes "{\"line\":" ++ (line ++ (codes ",\"loc\":" ++ (loc ++ (codes ",\"locations\":[" ++ (items ++ (codes ",\"type\":" ++ (kind ++ codes "}")))))))
branch-parts line loc kind items =
    let rest = items ++ (codes ",\"type\":" ++ kind ++ codes "}") in
    ap (λ t. codes "{\"line\":" ++ t) (append_assoc line (codes ",\"loc\":" ++ loc ++ codes ",\"locations\":[") rest
    ∙ ap (λ t. line ++ (codes ",\"loc\":" ++ t)) (append_assoc loc (codes ",\"locations\":[") rest))

pub branch-text : (b : Branch) (locations : List Loc) → locations ≡ b.locations
    → before_locations b ++ (items_text false (array_of loc_data locations) ++ behind_locations b) ≡ compact_text (branch_data b)
unfolding escape_byte
branch-text b locations same =
    ap (λ ls. before_locations b ++ (items_text false (array_of loc_data ls) ++ behind_locations b)) same
    ∙ branch-parts (number_text b.line) (loc_text b.loc) (quoted b.kind) (items_text false (array_of loc_data b.locations))

-- ---- a file

-- counts, entries, and what is behind them
both-then : (x y z w rest : List ℕ) → ((x ++ y) ++ (z ++ w)) ++ rest ≡ x ++ (y ++ (z ++ (w ++ rest)))
both-then x y z w rest = append_assoc (x ++ y) (z ++ w) rest ∙ append_assoc x y ((z ++ w) ++ rest) ∙ ap (λ t. x ++ (y ++ t)) (append_assoc z w rest)

file-parts : (b branches f functions path s statements : List ℕ)
    → ((codes "{\"b\":{" ++ b) ++ (codes ",\"branchMap\":{" ++ branches)) ++ (((codes ",\"f\":{" ++ f) ++ (codes ",\"fnMap\":{" ++ functions)) ++ ((codes ",\"path\":" ++ path)
    ++ (((codes ",\"s\":{" ++ s) ++ (codes ",\"statementMap\":{" ++ statements)) ++ codes "}")))
    ≡ codes "{\"b\":{" ++ (b ++ (codes ",\"branchMap\":{" ++ (branches ++ (codes ",\"f\":{" ++ (f ++ (codes ",\"fnMap\":{" ++ (functions ++ (codes ",\"path\":" ++ (path
    ++ (codes ",\"s\":{" ++ (s ++ (codes ",\"statementMap\":{" ++ (statements ++ codes "}")))))))))))))
file-parts b branches f functions path s statements =
    both-then (codes "{\"b\":{") b (codes ",\"branchMap\":{") branches _
    ∙ ap (λ t. codes "{\"b\":{" ++ (b ++ (codes ",\"branchMap\":{" ++ (branches ++ t)))) (both-then (codes ",\"f\":{") f (codes ",\"fnMap\":{") functions _
    ∙ ap (λ t. codes ",\"f\":{" ++ (f ++ (codes ",\"fnMap\":{" ++ (functions ++ (codes ",\"path\":" ++ (path ++ t)))))) (both-then (codes ",\"s\":{") s (codes ",\"statementMap\":{") statements (codes "}")))

abbrev pub both_text : {A : Type 0} → List ℕ → List ℕ → (A → List ℕ) → (A → Data) → (A → Data) → List A → List ℕ
both_text first second key counts entry xs = (first ++ members_text false (members_by key counts xs)) ++ (second ++ members_text false (members_by key entry xs))

abbrev pub branches_text : List Branch → List ℕ
branches_text = both_text (codes "{\"b\":{") (codes ",\"branchMap\":{") (λ b. b.key) (λ b. array (array_of count_data b.counts)) branch_data

abbrev pub functions_text : List Function → List ℕ
functions_text = both_text (codes ",\"f\":{") (codes ",\"fnMap\":{") (λ f. f.key) (λ f. count_data f.count) function_data

abbrev pub statements_text : List Statement → List ℕ
statements_text = both_text (codes ",\"s\":{") (codes ",\"statementMap\":{") (λ s. s.key) (λ s. count_data s.count) (λ s. loc_data s.loc)

-- what is left of a file behind each of these
abbrev pub behind_path : FileParts → List ℕ
behind_path f = statements_text f.statements ++ codes "}"

abbrev pub behind_functions : FileParts → List ℕ
behind_functions f = path_text f.path ++ behind_path f

abbrev pub behind_branches : FileParts → List ℕ
behind_branches f = functions_text f.functions ++ behind_functions f

abbrev pub behind_key : FileParts → List ℕ
behind_key f = branches_text f.branches ++ behind_branches f

pub file-text : (f : FileParts) → key_text f.path ++ behind_key f ≡ member_text f.path (file_data f)
unfolding escape_byte file_data
file-text f = ap (λ t. key_text f.path ++ t)
    (file-parts (members_text false (members_by (λ b. b.key) (λ b. array (array_of count_data b.counts)) f.branches)) (members_text false (members_by (λ b. b.key) branch_data f.branches))
    (members_text false (members_by (λ g. g.key) (λ g. count_data g.count) f.functions)) (members_text false (members_by (λ g. g.key) function_data f.functions)) (quoted f.path)
    (members_text false (members_by (λ s. s.key) (λ s. count_data s.count) f.statements)) (members_text false (members_by (λ s. s.key) (λ s. loc_data s.loc) f.statements)))

-- ---- files

pub files-text : (given files : List FileParts) → given ≡ files → ArePathsInOrder files
    → codes "{" ++ (joined (as_member (λ f. f.path) file_data) false 0 given ++ codes "}") ≡ files_text files
unfolding files_text
files-text given files same order =
    ap (λ t. codes "{" ++ t) (object-text (λ f. f.path) file_data false 0 given
    ∙ ap (λ fs. members_text false (in_turn (λ f. f.path) file_data fs)) same
    ∙ ap (members_text false) (sym (members-rising (λ f. f.path) file_data files (subst (IsStrict text_cmp text-total) order (strict-in_order text_cmp text-total (map (λ f. f.path) files))))))
