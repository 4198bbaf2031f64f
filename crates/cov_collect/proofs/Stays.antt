-- What was refused for the limit stays past it.
use Rattle.std.proofs.Common.{◌≡◌, ℕ, zero, suc, ◌<◌, Bool, true, false, List, [], ◌∷◌, ◌++◌, length, refl, sym, ap, ◌∙◌}
use Rattle.std.proofs.Common.{subst, arith, append_assoc, nat_eq, slice_get}
use Rattle.std.specs.Prelude.{Option, Some, None, Ok, Err, filter_map, is_none, ◌||◌}
use Rattle.std.specs.List.{list_any, AllByRecursion, cons_option}
use Rattle.std.proofs.lemmas.List.{append-nil}
use Rattle.std.proofs.lemmas.Option.{slice_get_within}
use Rattle.std.proofs.lemmas.Bool.Decides.{Decides-eqb}
use Rattle.cov_model.specs.declared.snapshot.Snapshot.{Snapshot}
use Rattle.cov_model.specs.declared.sums.Answer.{Answer}
use Rattle.cov_model.specs.declared.sums.Answer.TheVariants.{Past}
use Rattle.cov_model.specs.declared.sums.SumFault.{SumFault}
use Rattle.cov_model.specs.Sums.{fits, sum_fault}
use Rattle.cov_model.specs.Outcome.{Reading, IsOrder, IsOutcome, outcome_list, picked, after, joined, answer_to}
use Rattle.cov_model.specs.Outcome.{taken_or_past, accepted_over, answers_over}
use Rattle.cov_model.proofs.Fits.{joins_where_it_fits}
use Rattle.cov_model.proofs.Grows.{stays_past}
use Rattle.cov_collect.specs.Batches.{StaysRefused}

HasMore : List Snapshot → List Snapshot → Type 0
HasMore held now = (more : List Snapshot) × (now ≡ held ++ more)

joined-more : (held : List Snapshot) (s : Snapshot) (o : Option SumFault) → HasMore held (joined held s o)
unfolding HasMore
joined-more held s None = (s ∷ [], refl)
joined-more held s (Some f) = ([], sym (append-nil held))

after-more : (held : List Snapshot) (r : Reading) → HasMore held (after held r)
unfolding HasMore
after-more held (Ok s) = joined-more held s (sum_fault held s)
after-more held (Err e) = ([], sym (append-nil held))

accepted-more : (held : List Snapshot) (rs : List Reading) → HasMore held (accepted_over held rs)
unfolding HasMore accepted_over
accepted-more held [] = ([], sym (append-nil held))
accepted-more held (r ∷ rs) =
    let m = after-more held r in
    let n = accepted-more (after held r) rs in
    (m.0 ++ n.0, n.1 ∙ ap (λ xs. xs ++ n.0) m.1 ∙ append_assoc held m.0 n.0)

past-some : (o : Option SumFault) (f : SumFault) → taken_or_past o ≡ Past f → is_none o ≡ false
past-some None f e = absurd cc
past-some (Some g) f e = refl

past-now : (held : List Snapshot) (s : Snapshot) (f : SumFault) (rs : List Reading) → answer_to held (Ok s) ≡ Past f → fits (accepted_over held rs ++ s ∷ []) ≡ false
unfolding HasMore
past-now held s f rs e =
    let past : fits (held ++ s ∷ []) ≡ false = sym (joins_where_it_fits held s) ∙ past-some (sum_fault held s) f e in
    let m = accepted-more held rs in
    subst (λ xs. fits (xs ++ s ∷ []) ≡ false) (sym m.1) (stays_past held m.0 s past)

step-here : (held : List Snapshot) (s : Snapshot) (f : SumFault) (o : Option Reading) (a : Option Answer) (ps : List Reading) (bs : List Answer)
    → o ≡ Some (Ok s) → a ≡ Some (Past f) → cons_option a bs ≡ answers_over held (cons_option o ps)
    → fits (accepted_over held (cons_option o ps) ++ s ∷ []) ≡ false
unfolding answers_over
step-here held s f None a ps bs e g h = absurd (cc (e))
step-here held s f (Some r) None ps bs e g h = absurd (cc (g))
step-here held s f (Some r) (Some b) ps bs e g h =
    let read : r ≡ Ok s = cc (e) in
    let given : b ≡ Past f = cc (g) in
    let first : b ≡ answer_to held r = cc (h) in
    subst (λ (x : Reading). fits (accepted_over held (x ∷ ps) ++ s ∷ []) ≡ false) (sym read)
    (past-now held s f (Ok s ∷ ps) (ap (answer_to held) (sym read) ∙ sym first ∙ given))

step-later : (held : List Snapshot) (s : Snapshot) (o : Option Reading) (a : Option Answer) (ps : List Reading) (bs : List Answer) (r : Reading) (b : Answer)
    → o ≡ Some r → a ≡ Some b → cons_option a bs ≡ answers_over held (cons_option o ps)
    → (bs ≡ answers_over (after held r) ps → fits (accepted_over (after held r) ps ++ s ∷ []) ≡ false)
    → fits (accepted_over held (cons_option o ps) ++ s ∷ []) ≡ false
unfolding answers_over accepted_over
step-later held s None a ps bs r b e g h more = absurd (cc (e))
step-later held s (Some x) None ps bs r b e g h more = absurd (cc (g))
step-later held s (Some x) (Some y) ps bs r b e g h more =
    let read : x ≡ r = cc (e) in
    let rest : bs ≡ answers_over (after held x) ps = cc (h) in
    subst (λ (z : Reading). fits (accepted_over (after held z) ps ++ s ∷ []) ≡ false) (sym read)
    (more (rest ∙ ap (λ z. answers_over (after held z) ps) read))

some-at : {A : Type 0} (xs : List A) (q : ℕ) → q < length xs → (x : A) × (slice_get xs q ≡ Some x)
some-at [] q l = absurd (omega arith)
some-at (x ∷ xs) zero l = (x, refl)
some-at (x ∷ xs) (suc q) l = some-at xs q (omega arith)

stays-place : (readings : List Reading) (answers : List Answer) (n : ℕ) → length readings ≡ n → length answers ≡ n
    → (order : List ℕ) (held : List Snapshot) → AllByRecursion (λ p. p < n) order
    → filter_map (slice_get answers) order ≡ answers_over held (picked readings order)
    → (place : ℕ) (s : Snapshot) (f : SumFault) → list_any (nat_eq place) order ≡ true
    → slice_get readings place ≡ Some (Ok s) → slice_get answers place ≡ Some (Past f)
    → fits (accepted_over held (picked readings order) ++ s ∷ []) ≡ false
stays-place readings answers n many all [] held within same place s f in_it read given = absurd cc
stays-place readings answers n many all (q ∷ qs) held within same place s f in_it read given =
    let r = some-at readings q (omega (arith, within.0, many)) in
    let a = some-at answers q (omega (arith, within.0, all)) in
    either-place readings answers q qs held place s f (nat_eq place q) refl same read given r a
    (λ later rest. stays-place readings answers n many all qs (after held r.0) within.1 rest place s f later read given) in_it
  where
    either-place : (readings : List Reading) (answers : List Answer) (q : ℕ) (qs : List ℕ) (held : List Snapshot) (place : ℕ) (s : Snapshot) (f : SumFault)
        (b : Bool) → nat_eq place q ≡ b → filter_map (slice_get answers) (q ∷ qs) ≡ answers_over held (picked readings (q ∷ qs))
        → slice_get readings place ≡ Some (Ok s) → slice_get answers place ≡ Some (Past f)
        → (r : (x : Reading) × (slice_get readings q ≡ Some x)) → (a : (x : Answer) × (slice_get answers q ≡ Some x))
        → (list_any (nat_eq place) qs ≡ true → filter_map (slice_get answers) qs ≡ answers_over (after held r.0) (picked readings qs)
        → fits (accepted_over (after held r.0) (picked readings qs) ++ s ∷ []) ≡ false)
        → (b || list_any (nat_eq place) qs) ≡ true
        → fits (accepted_over held (picked readings (q ∷ qs)) ++ s ∷ []) ≡ false
    either-place readings answers q qs held place s f true is same read given r a more in_it =
        let at : place ≡ q = (Decides-eqb place q).0 is in
        step-here held s f (slice_get readings q) (slice_get answers q) (picked readings qs) (filter_map (slice_get answers) qs)
        (ap (slice_get readings) (sym at) ∙ read) (ap (slice_get answers) (sym at) ∙ given) same
    either-place readings answers q qs held place s f false is same read given r a more in_it =
        step-later held s (slice_get readings q) (slice_get answers q) (picked readings qs) (filter_map (slice_get answers) qs) r.0 a.0 r.1 a.1 same (more in_it)

-- A snapshot that was answered `Past` passes the limit with all that was taken, where each place is in the order.
pub stays-refused : (held : List Snapshot) (readings : List Reading) (answers : List Answer) (order : List ℕ)
    → length answers ≡ length readings → IsOrder (length readings) order → ((place : ℕ) → place < length readings → list_any (nat_eq place) order ≡ true)
    → IsOutcome held readings order (filter_map (slice_get answers) order)
    → StaysRefused (outcome_list held readings order) readings answers
stays-refused held readings answers order all is every same place s f read given =
    stays-place readings answers (length readings) refl all order held is.within same place s f (every place (slice_get_within readings place (Ok s) read)) read given
