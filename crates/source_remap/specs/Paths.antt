-- The files that urls and sources name.
use Rattle.std.specs.Prelude.{ℕ, ◌-◌, Bool, false, not, ◌&&◌, ◌||◌, List, [], ◌∷◌, ◌++◌, length, drop, take, flat_map, position, ◌==◌, if◌then◌else◌, Option, None, Some, option_map, option_and_then, unwrap_or, slice_get, codes}
use Rattle.std.specs.Str.{is_utf8}
use Rattle.std.specs.Char.{is_ascii_alphabetic, is_ascii_digit}
use Rattle.std.specs.List.{list_any, list_all, before_first, slice_split}
use Rattle.percent_encoding.specs.Percent.{percent_decode}
use Rattle.cov_text.specs.Listing.{begins_with, same_text}

-- a text that may be a path: UTF-8 without a zero byte
abbrev pub path_text : List ℕ → Option (List ℕ)
path_text bytes = if is_utf8 bytes && not (list_any (λ b. b == 0) bytes) then Some bytes else None

-- `?` or `#`
abbrev pub ends_the_path : ℕ → Bool
ends_the_path b = (b == 63) || (b == 35)

-- the path that a url of a file names: what stands behind `file://`, up to `?` or `#`, percent-decoded
unfoldable pub path_of : List ℕ → Option (List ℕ)
path_of url = if begins_with (codes "file:///") url then path_text (percent_decode (before_first ends_the_path (drop 7 url))) else None

-- ---- sources

-- a letter, a digit, `+`, `-` or `.`
abbrev pub is_scheme_byte : ℕ → Bool
is_scheme_byte b = is_ascii_alphabetic b || (is_ascii_digit b || ((b == 43) || ((b == 45) || (b == 46))))

abbrev pub is_scheme : List ℕ → Bool
is_scheme [] = false
is_scheme (b ∷ bytes) = is_ascii_alphabetic b && list_all is_scheme_byte bytes

abbrev pub is_colon : ℕ → Bool
is_colon b = b == 58

-- what stands before its first `:`, if it has one, is a letter and then letters, digits, `+`, `-` or `.`
abbrev pub has_scheme : List ℕ → Bool
has_scheme name = unwrap_or (option_map (λ n. is_scheme (take n name)) (position is_colon name)) false

abbrev pub is_slash : ℕ → Bool
is_slash b = b == 47

-- what stands between the slashes of a path
abbrev pub segments_of : List ℕ → List (List ℕ)
segments_of path = slice_split is_slash path

-- without the first and the last
abbrev pub inner_segments : List (List ℕ) → List (List ℕ)
inner_segments segments = drop 1 (take (length segments - 1) segments)

-- the segments of the folder of an absolute path: nothing stands before its first slash, and the file's name behind its last
abbrev pub folder_of : List ℕ → List (List ℕ)
folder_of path = inner_segments (segments_of path)

-- these segments behind those kept, each `.` dropped, and each `..` dropped with the one before it, if there is one
abbrev pub walked : List (List ℕ) → List (List ℕ) → List (List ℕ)
walked kept [] = kept
walked kept (segment ∷ segments) =
    if same_text segment (codes ".") then walked kept segments
    else (if same_text segment (codes "..") then walked (take (length kept - 1) kept) segments else walked (kept ++ segment ∷ []) segments)

-- the path of these segments, each behind a slash; without segments a slash
abbrev pub rooted : List (List ℕ) → List ℕ
rooted [] = codes "/"
rooted (segment ∷ segments) = flat_map (λ s. 47 ∷ s) (segment ∷ segments)

-- the name, taken from the folder of the file at base
abbrev pub path_from : List ℕ → List ℕ → List ℕ
path_from name base = rooted (walked (walked [] (folder_of base)) (segments_of name))

-- the path that a source's name names: a url of a file, a path, a url of no file, or a name in the folder of the script
abbrev pub named_path : List ℕ → List ℕ → Option (List ℕ)
named_path generated_url name =
    if begins_with (codes "file:") name then path_of name
    else (if begins_with (codes "/") name then Some name
    else (if has_scheme name then None else option_map (path_from name) (path_of generated_url)))

-- the path of a source of the map of the script at this url
unfoldable pub source_path : List ℕ → Option (List ℕ) → Option (List ℕ)
source_path generated_url source = option_and_then (named_path generated_url) source

-- the name of source k, if the map names it
abbrev pub source_at : List (Option (List ℕ)) → ℕ → Option (List ℕ)
source_at sources k = option_and_then (λ name. name) (slice_get sources k)
