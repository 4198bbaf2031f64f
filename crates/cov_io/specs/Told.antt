-- What a store tells of its files and folders.
use Rattle.std.specs.Prelude.{◌≡◌, ℕ, Bool, List, [], ◌∷◌, ◌++◌, filter_map, if◌then◌else◌, Option, None, Some, option_and_then, IsTrue, IsFalse, ◌==◌}
use Rattle.std.specs.List.{list_any}
use Rattle.cov_text.specs.Listing.{same_text, text_cmp, in_order}
use Rattle.cov_io.specs.Causes.{Rose}

-- It holds of what is told, and says nothing where nothing is told.
abbrev pub WhereTold : {A : Type 0} → Option A → (A → Type 0) → Type 0
WhereTold {A} told P = (x : A) → told ≡ Some x → P x

-- Something is told, and it holds of that.
abbrev pub IsToldAnd : {A : Type 0} → Option A → (A → Type 0) → Type 0
IsToldAnd {A} told P = (x : A) × (told ≡ Some x) × P x

-- The bytes at each path. Of entries at one path the first counts.
abbrev pub Files : Type 0
Files = List (List ℕ × List ℕ)

abbrev pub bytes_at : List ℕ → Files → Option (List ℕ)
bytes_at path [] = None
bytes_at path (file ∷ files) = if same_text file.0 path then Some file.1 else bytes_at path files

-- `FOLDER/NAME`
abbrev pub path_in : List ℕ → List ℕ → List ℕ
path_in folder name = folder ++ 47 ∷ name

-- what follows the front, where the text begins with it
abbrev pub behind_front : List ℕ → List ℕ → Option (List ℕ)
behind_front [] text = Some text
behind_front (x ∷ front) [] = None
behind_front (x ∷ front) (y ∷ text) = if x == y then behind_front front text else None

abbrev pub has_slash : List ℕ → Bool
has_slash name = list_any (λ b. b == 47) name

-- the name of a path `FOLDER/NAME`, where no `/` is in the name
abbrev pub name_in : List ℕ → List ℕ → Option (List ℕ)
name_in folder path = option_and_then (λ name. if has_slash name then None else Some name) (behind_front (folder ++ 47 ∷ []) path)

-- the names of the files directly in a folder, in byte order
abbrev pub names_in : List ℕ → Files → List (List ℕ)
names_in folder files = in_order text_cmp (filter_map (λ file. name_in folder file.0) files)

abbrev pub is_among : List ℕ → List (List ℕ) → Bool
is_among x xs = list_any (same_text x) xs

-- A folder that a call answered `Ok` of is there, where the store tells.
abbrev pub FolderIsThere : Option (List (List ℕ)) → List ℕ → Type 0
FolderIsThere told folder = WhereTold told (λ folders. IsTrue (is_among folder folders))

-- `Absent` is told of what isn't there, and where the store doesn't tell, only where it failed.
abbrev pub FolderIsAbsent : Option (List (List ℕ)) → List ℕ → ℕ → ℕ → Type 0
FolderIsAbsent None folder before now = Rose before now
FolderIsAbsent (Some folders) folder before now = IsFalse (is_among folder folders)

abbrev pub FileIsAbsent : Option Files → List ℕ → ℕ → ℕ → Type 0
FileIsAbsent None path before now = Rose before now
FileIsAbsent (Some files) path before now = bytes_at path files ≡ None
