-- The tests tell what is defined as a fact.
use Rattle.std.proofs.Common.{◌≡◌, ℕ, Bool, true, false, List, [], ◌∷◌, refl, sym, ap, ◌∙◌, subst, eqb-true, eq-eqb}
use Rattle.std.specs.Prelude.{◌&&◌, ◌==◌, ◌↔◌, IsTrue, Ok, Err, Option, None, Some, cond}
use Rattle.std.specs.Bool.{Decides}
use Rattle.std.proofs.lemmas.Slice.Eq.{bytes_eq-Decides, slice_eq-Decides}
use Rattle.cov_text.specs.Listing.{same_text}
use Rattle.cov_model.specs.declared.snapshot.Snapshot.{Snapshot}
use Rattle.cov_model.specs.declared.sums.Key.{Key}
use Rattle.cov_model.specs.declared.report.ListForm.{ListForm}
use Rattle.cov_model.specs.File.{file_in}
use Rattle.cov_model.specs.Files.{IsFileIn, IsFileOf}
use Rattle.cov_model.specs.Held.{Held, FunctionSums}
use Rattle.cov_model.specs.Outcome.{Reading}
use Rattle.cov_model.specs.Reading.{reading}
use Rattle.cov_model.specs.Sums.{fits, same_key}
use Rattle.cov_commands.specs.Deciding.{same_flag, same_function, same_sums, if_file_of, snapshot_in}

-- ---- parts

both : (a b : Bool) → (a && b) ≡ true → (a ≡ true) × (b ≡ true)
both true b e = (refl, e)
both false b e = absurd cc

and-is : (a b : Bool) → a ≡ true → b ≡ true → (a && b) ≡ true
and-is a b e f = ap (λ t. t && b) e ∙ f

flag-Decides : (a b : Bool) → Decides (same_flag a b) (a ≡ b)
flag-Decides true true = (λ e. refl, λ e. refl)
flag-Decides true false = (λ e. absurd cc, λ e. absurd cc)
flag-Decides false true = (λ e. absurd cc, λ e. absurd cc)
flag-Decides false false = (λ e. refl, λ e. refl)

key-Decides : (k l : Key) → Decides (same_key k l) (k ≡ l)
key-Decides k l = (
  λ e.
      let p = both (same_text k.url l.url) ((k.start == l.start) && ((k.end == l.end) && same_text k.name l.name)) e in
      let q = both (k.start == l.start) ((k.end == l.end) && same_text k.name l.name) p.1 in
      let r = both (k.end == l.end) (same_text k.name l.name) q.1 in
      let url = (bytes_eq-Decides k.url l.url).0 p.0 in
      let start = eqb-true k.start l.start q.0 in
      let end = eqb-true k.end l.end r.0 in
      let name = (bytes_eq-Decides k.name l.name).0 r.1 in
      λ i. record { url = url i; start = start i; end = end i; name = name i },
  λ e.
      and-is _ _ ((bytes_eq-Decides k.url l.url).1 (ap (λ (m : Key). m.url) e))
      (and-is _ _ (eq-eqb k.start l.start (ap (λ (m : Key). m.start) e))
      (and-is _ _ (eq-eqb k.end l.end (ap (λ (m : Key). m.end) e)) ((bytes_eq-Decides k.name l.name).1 (ap (λ (m : Key). m.name) e)))),
)

function-Decides : (f g : FunctionSums) → Decides (same_function f g) (f ≡ g)
function-Decides f g = (
  λ e.
      let p = both (same_key f.key g.key) (same_flag f.block g.block && ((f.root == g.root) && same_text f.counts g.counts)) e in
      let q = both (same_flag f.block g.block) ((f.root == g.root) && same_text f.counts g.counts) p.1 in
      let r = both (f.root == g.root) (same_text f.counts g.counts) q.1 in
      let key = (key-Decides f.key g.key).0 p.0 in
      let block = (flag-Decides f.block g.block).0 q.0 in
      let root = eqb-true f.root g.root r.0 in
      let counts = (bytes_eq-Decides f.counts g.counts).0 r.1 in
      λ i. record { key = key i; block = block i; root = root i; counts = counts i },
  λ e.
      and-is _ _ ((key-Decides f.key g.key).1 (ap (λ (h : FunctionSums). h.key) e))
      (and-is _ _ ((flag-Decides f.block g.block).1 (ap (λ (h : FunctionSums). h.block) e))
      (and-is _ _ (eq-eqb f.root g.root (ap (λ (h : FunctionSums). h.root) e)) ((bytes_eq-Decides f.counts g.counts).1 (ap (λ (h : FunctionSums). h.counts) e)))),
)

-- ---- the same sums

pub sums-Decides : (h k : Held) → Decides (same_sums h k) (h ≡ k)
unfolding same_sums
sums-Decides h k =
    let urls = slice_eq-Decides bytes_eq-Decides h.urls k.urls _ refl in
    let functions = slice_eq-Decides function-Decides h.functions k.functions _ refl in (
      λ e.
          let p = both _ _ e in
          let left = urls.0 p.0 in
          let right = functions.0 p.1 in
          λ i. record { urls = left i; functions = right i },
      λ e. and-is _ _ (urls.1 (ap (λ (x : Held). x.urls) e)) (functions.1 (ap (λ (x : Held). x.functions) e)),
    )

-- a test that tells the same is this test
pub told-same : (told : Bool) (h k : Held) → IsTrue told ↔ (h ≡ k) → told ≡ same_sums h k
told-same true h k both_ways = sym ((sums-Decides h k).1 (both_ways.0 refl))
told-same false h k both_ways = by (same_sums h k) refl
  where
    by : (b : Bool) → same_sums h k ≡ b → false ≡ same_sums h k
    by true e = both_false (both_ways.1 ((sums-Decides h k).0 e))
      where
        both_false : IsTrue false → false ≡ same_sums h k
        both_false t = absurd cc
    by false e = sym e

-- ---- files

file-of : (form : ListForm) (bytes : List ℕ) (s : Snapshot) (r : Reading) → reading bytes ≡ r → if_file_of form r bytes ≡ Some s → IsFileOf form s bytes
file-of form bytes s (Ok t) read e = by (fits (t ∷ []) && same_text (file_in form (t ∷ [])) bytes) refl e
  where
    by : (b : Bool) → (fits (t ∷ []) && same_text (file_in form (t ∷ [])) bytes) ≡ b → cond b (Some t) None ≡ Some s → IsFileOf form s bytes
    by true is e =
        let p = both (fits (t ∷ [])) (same_text (file_in form (t ∷ [])) bytes) is in
        let same : t ≡ s = cc in
        subst (λ u. IsFileOf form u bytes) same (record { read = read; fit = p.0; same = (bytes_eq-Decides (file_in form (t ∷ [])) bytes).0 p.1 })
    by false is e = absurd cc
file-of form bytes s (Err fault) read e = absurd cc

pub file-is : (form : ListForm) (bytes : List ℕ) (s : Snapshot) → snapshot_in form bytes ≡ Some s → IsFileOf form s bytes
unfolding snapshot_in
file-is form bytes s e = file-of form bytes s (reading bytes) refl e

pub is-file : (form : ListForm) (bytes : List ℕ) (s : Snapshot) → IsFileOf form s bytes → snapshot_in form bytes ≡ Some s
unfolding snapshot_in
is-file form bytes s is =
    ap (λ (r : Reading). if_file_of form r bytes) is.read
    ∙ ap (λ b. cond b (Some s) None) (and-is _ _ is.fit ((bytes_eq-Decides (file_in form (s ∷ [])) bytes).1 is.same))

pub none-file : (form : ListForm) (bytes : List ℕ) → (IsFileIn form bytes → ⊥) → snapshot_in form bytes ≡ None
none-file form bytes none = by (snapshot_in form bytes) refl
  where
    by : (o : Option Snapshot) → snapshot_in form bytes ≡ o → snapshot_in form bytes ≡ None
    by None e = e
    by (Some s) e = absurd (none (s, file-is form bytes s e))
