-- Each step of the machine keeps what holds of a target.
use Rattle.std.proofs.Common.{◌≡◌, ℕ, zero, suc, ◌+◌, ◌-◌, ◌<◌, ◌≤◌, Bool, true, false, ◌||◌, List, [], ◌∷◌, ◌++◌, length, set, get_or, replicate, refl, sym, ap, ◌∙◌, arith, append_assoc, append-nil, length-append}
use Rattle.std.specs.Prelude.{Option, None, Some, is_some, count_by, nat_le, ◌==◌, ◌≢◌, cond}
use Rattle.std.specs.List.{list_all}
use Rattle.std.proofs.lemmas.Bool.{eq-eqb, and_parts, and_from, le-leb}
use Rattle.std.proofs.lemmas.Bool.Decides.{nat_tests}
use Rattle.std.proofs.lemmas.List.Sums.{sum_by-append, count_by-le-length}
use Rattle.std.proofs.lemmas.List.{set-get_or, get_or-set_other, length-set, length-replicate}
use Rattle.std.proofs.lemmas.Grind.{get_or-set_at}
use Rattle.cov_session.specs.declared.session.Desk.{Desk}
use Rattle.cov_messages.specs.declared.request.Flags.{Flags}
use Rattle.cov_session.specs.declared.session.Take.{Take}
use Rattle.cov_model.specs.declared.snapshot.Snapshot.{Snapshot}
use Rattle.cov_session.specs.Machine.{State, state, idle_desks, runs, desk_at, is_started, idle, dropped, with_desk, dropped_unless, resumed, played_one, with_take, take_of, played_by_take, replied, size_of, stopped_after}
use Rattle.cov_model.specs.Sums.{fits}
use Rattle.cov_session.specs.Kept.{IsKept, IsSound, is_chain, is_numbered, is_proper}

le_wider : (n a b : ℕ) → nat_le n a ≡ true → a ≤ b → nat_le n b ≡ true
le_wider n a b h le = grind (arith, nat_tests)

-- ---- desks

pub runs-set : (desks : List Desk) (n : ℕ) (d : Desk) → is_started d ≡ is_started (desk_at desks n) → runs (set desks n d) ≡ runs desks
runs-set [] n d e = refl
runs-set (x ∷ xs) zero d e = ap (λ b. b || runs xs) e
runs-set (x ∷ xs) (suc n) d e = ap (λ b. is_started x || b) (runs-set xs n d e)

pub proper-set : (desks : List Desk) (n : ℕ) (d : Desk) → list_all is_proper desks ≡ true → is_proper d ≡ true → list_all is_proper (set desks n d) ≡ true
proper-set [] n d h p = refl
proper-set (x ∷ xs) zero d h p = and_from _ _ p (and_parts _ _ h).1
proper-set (x ∷ xs) (suc n) d h p = and_from _ _ (and_parts _ _ h).0 (proper-set xs n d (and_parts _ _ h).1 p)

-- ---- takes

pub chain-wider : (from : ℕ) (ts : List Take) (a b : ℕ) → is_chain from ts a ≡ true → a ≤ b → is_chain from ts b ≡ true
chain-wider from [] a b h le = le_wider from a b h le
chain-wider from (t ∷ ts) a b h le =
    let p = and_parts _ _ h in
    let q = and_parts _ _ p.1 in
    and_from _ _ p.0 (and_from _ _ q.0 (chain-wider t.played ts a b q.1 le))

pub chain-push : (from : ℕ) (ts : List Take) (t : Take) → is_chain from ts t.since ≡ true → t.since ≤ t.played → is_chain from (ts ++ t ∷ []) t.played ≡ true
chain-push from [] t h le = and_from _ _ h (and_from _ _ (le-leb _ _ le) (le-leb t.played t.played (omega arith)))
chain-push from (x ∷ ts) t h le =
    let p = and_parts _ _ h in
    let q = and_parts _ _ p.1 in
    and_from _ _ p.0 (and_from _ _ q.0 (chain-push x.played ts t q.1 le))

pub numbered-push : (earlier ts : List Take) (t : Take) → is_numbered earlier ts ≡ true → t.number ≡ count_by (λ e. e.session == t.session) (earlier ++ ts) → is_numbered earlier (ts ++ t ∷ []) ≡ true
numbered-push earlier [] t h e = and_from _ _ (eq-eqb _ _ (e ∙ ap (count_by (λ x. x.session == t.session)) (append-nil earlier))) refl
numbered-push earlier (x ∷ ts) t h e =
    let p = and_parts _ _ h in
    and_from _ _ p.0 (numbered-push (earlier ++ x ∷ []) ts t p.1 (e ∙ ap (count_by (λ y. y.session == t.session)) (sym (append_assoc earlier (x ∷ []) ts))))

-- ---- states

pub kept_desk : (s : State) (n : ℕ) (d : Desk) → IsKept s → is_proper d ≡ true → (runs (set s.desks n d) ≡ false → s.since ≡ s.played) → IsKept (with_desk s n d)
kept_desk s n d k p still =
    record { order = k.order; within = k.within; still = still; chained = k.chained; numbered = k.numbered; tallied = k.tallied; proper = proper-set s.desks n d k.proper p }

pub kept_drop : (s : State) (n : ℕ) (d : Desk) → IsKept s → is_proper d ≡ true → IsKept (dropped (with_desk s n d))
kept_drop s n d k p =
    record {
      order = omega arith;
      within = k.within;
      still = λ _. refl;
      chained = chain-wider 0 s.takes s.since s.played k.chained k.order;
      numbered = k.numbered;
      tallied = omega (arith, k.tallied, k.order);
      proper = proper-set s.desks n d k.proper p;
    }

pub kept_unwatched : (s : State) → IsKept s → runs s.desks ≡ false → s.played < length s.tape → IsKept (played_one false s)
kept_unwatched s k idle less =
    let still = k.still idle in
    record {
      order = omega arith;
      within = omega (arith, less);
      still = λ _. refl;
      chained = chain-wider 0 s.takes s.since (s.played + 1) k.chained (omega (arith, k.order));
      numbered = k.numbered;
      tallied = omega (arith, k.tallied, still);
      proper = k.proper;
    }

pub kept_take : (s : State) (n : ℕ) → IsKept s → IsKept (with_take s n)
kept_take s n k =
    let more : s.played ≤ played_by_take s = omega (arith, k.within) in
    let le : s.since ≤ played_by_take s = omega (arith, more, k.order) in
    record {
      order = omega arith;
      within = omega arith;
      still = λ _. refl;
      chained = chain-push 0 s.takes (take_of s n) k.chained le;
      numbered = numbered-push [] s.takes (take_of s n) k.numbered refl;
      tallied = omega (arith, k.tallied, le, sum_by-append size_of s.takes (take_of s n ∷ []));
      proper = k.proper;
    }

-- ---- where nothing is held, nothing is discarded

pub dropped_still : (s : State) → s.since ≡ s.played → dropped s ≡ s
dropped_still s e =
    let d : s.discarded + (s.played - s.since) ≡ s.discarded = omega (arith, e) in
    λ i. record { tape = s.tape; pace = s.pace; played = s.played; since = sym e i; discarded = d i; unwatched = s.unwatched; desks = s.desks; takes = s.takes }

still_unless : (b : Bool) (s : State) → (b ≡ false → s.since ≡ s.played) → dropped_unless b s ≡ s
still_unless true s h = refl
still_unless false s h = dropped_still s (h refl)

pub resumed_same : (s : State) (n : ℕ) (d : Desk) → IsKept s → is_started d ≡ is_started (desk_at s.desks n) → resumed s n d ≡ with_desk s n d
resumed_same s n d k e = still_unless (runs (set s.desks n d)) (with_desk s n d) (λ f. k.still (sym (runs-set s.desks n d e) ∙ f))

pub with_its_desk : (s : State) (n : ℕ) (d : Desk) → desk_at s.desks n ≡ d → with_desk s n d ≡ s
with_its_desk s n d e = ap (λ (x : Desk). with_desk s n x) (sym e) ∙ ap (λ (ds : List Desk). record { tape = s.tape; pace = s.pace; played = s.played; since = s.since; discarded = s.discarded; unwatched = s.unwatched; desks = ds; takes = s.takes }) (set-get_or s.desks n idle)

pub resumed_its_desk : (s : State) (n : ℕ) (d : Desk) → IsKept s → desk_at s.desks n ≡ d → resumed s n d ≡ s
resumed_its_desk s n d k e = resumed_same s n d k (ap is_started (sym e)) ∙ with_its_desk s n d e

stopped_by : (f : Option Flags) (s : State) (n : ℕ) (b : Bool) → IsKept s → (desk_at s.desks n).started ≡ f → resumed s n (record { enabled = b; started = None }) ≡ stopped_after f s n b
stopped_by None s n b k e = resumed_same s n (record { enabled = b; started = None }) k (ap is_some (sym e))
stopped_by (Some flags) s n b k e = refl

pub resumed_stops : (s : State) (n : ℕ) (b : Bool) → IsKept s → resumed s n (record { enabled = b; started = None }) ≡ stopped_after (desk_at s.desks n).started s n b
resumed_stops s n b k = stopped_by (desk_at s.desks n).started s n b k refl

proper-idle : (n : ℕ) → list_all is_proper (replicate n idle) ≡ true
proper-idle zero = refl
proper-idle (suc n) = proper-idle n

pub kept_start : (tape : List Snapshot) (pace n : ℕ) (desks : List Desk) → desks ≡ idle_desks n → IsKept (state tape pace 0 0 0 0 desks [])
kept_start tape pace n desks e =
    record { order = omega arith; within = omega arith; still = λ _. refl; chained = refl; numbered = refl; tallied = refl; proper = ap (list_all is_proper) e ∙ proper-idle n }

-- a take, as the code writes it down
pub kept_took : (s : State) (n p k : ℕ) (ts : List Take) → IsKept s → p ≡ played_by_take s → k ≡ count_by (λ t. t.session == n) s.takes
    → ts ≡ s.takes ++ record { session = n; number = k; since = s.since; played = p } ∷ []
    → IsKept (state s.tape s.pace p p s.discarded s.unwatched s.desks ts)
kept_took s n p k ts kept ep ek et =
    let t : Take = record { session = n; number = k; since = s.since; played = p } in
    let le : s.since ≤ p = omega (arith, ep, kept.within, kept.order) in
    record {
      order = omega arith;
      within = omega (arith, ep);
      still = λ _. refl;
      chained = ap (λ x. is_chain 0 x p) et ∙ chain-push 0 s.takes t kept.chained le;
      numbered = ap (is_numbered []) et ∙ numbered-push [] s.takes t kept.numbered ek;
      tallied = omega (arith, kept.tallied, le, ap replied et, sum_by-append size_of s.takes (t ∷ []));
      proper = kept.proper;
    }

-- ---- what the fields keep

pub sound_start : (tape : List Snapshot) (pace n : ℕ) (desks : List Desk) (counts : List ℕ) → desks ≡ idle_desks n → counts ≡ replicate n 0 → fits tape ≡ true
    → IsSound (state tape pace 0 0 0 0 desks []) counts
sound_start tape pace n desks counts e ec h =
    record {
      kept = kept_start tape pace n desks e;
      fitting = h;
      numbers = ap length ec ∙ length-replicate n 0 ∙ sym (length-replicate n idle) ∙ ap length (sym e);
      counted = λ k. ap (λ xs. get_or xs k 0) ec ∙ no_count n k;
    }
  where
    no_count : (n k : ℕ) → get_or {A = ℕ} (replicate n 0) k 0 ≡ 0
    no_count zero k = refl
    no_count (suc n) zero = refl
    no_count (suc n) (suc k) = no_count n k

-- where neither the tape nor the takes change
pub sound_still : (s t : State) (counts : List ℕ) → IsSound s counts → IsKept t → t.tape ≡ s.tape → t.takes ≡ s.takes → length t.desks ≡ length s.desks → IsSound t counts
sound_still s t counts sound kept tape takes desks =
    record {
      kept = kept;
      fitting = ap fits tape ∙ sound.fitting;
      numbers = sound.numbers ∙ sym desks;
      counted = λ k. sound.counted k ∙ ap (count_by (λ (x : Take). x.session == k)) (sym takes);
    }

count_more : (p : Take → Bool) (ts : List Take) (t : Take) → count_by p (ts ++ t ∷ []) ≡ count_by p ts + cond (p t) 1 0
count_more p ts t = omega (arith, sum_by-append (λ (x : Take). cond (p x) 1 0) ts (t ∷ []))

pub count_below : (p : Take → Bool) (ts more : List Take) (t : Take) → more ≡ ts ++ t ∷ [] → count_by p ts < length more
count_below p ts more t e = omega (arith, count_by-le-length p ts, ap length e, length-append ts (t ∷ []))

one_more : (counts : List ℕ) (ts : List Take) (t : Take) (k : ℕ) (b : Bool) → t.session < length counts → (t.session == k) ≡ b
    → get_or counts k 0 ≡ count_by (λ (x : Take). x.session == k) ts
    → get_or (set counts t.session (get_or counts t.session 0 + 1)) k 0 ≡ count_by (λ (x : Take). x.session == k) ts + cond b 1 0
one_more counts ts t k true lt e h =
    let is : k ≡ t.session = grind (arith, nat_tests) in
    get_or-set_at counts t.session k (get_or counts t.session 0 + 1) 0 is lt ∙ ap (λ n. get_or counts n 0 + 1) (sym is) ∙ ap (λ n. n + 1) h
one_more counts ts t k false lt e h =
    let other : k ≢ t.session = grind (arith, nat_tests) in
    get_or-set_other counts t.session k (get_or counts t.session 0 + 1) 0 other ∙ h ∙ omega arith

pub sound_took : (s : State) (n p k : ℕ) (ts : List Take) (counts more : List ℕ) → IsSound s counts → n < length s.desks → p ≡ played_by_take s → k ≡ get_or counts n 0
    → ts ≡ s.takes ++ record { session = n; number = k; since = s.since; played = p } ∷ []
    → more ≡ set counts n (k + 1)
    → IsSound (state s.tape s.pace p p s.discarded s.unwatched s.desks ts) more
sound_took s n p k ts counts more sound lt ep ek et em =
    let t : Take = record { session = n; number = k; since = s.since; played = p } in
    record {
      kept = kept_took s n p k ts sound.kept ep (ek ∙ sound.counted n) et;
      fitting = sound.fitting;
      numbers = ap length em ∙ length-set counts n (k + 1) ∙ sound.numbers;
      counted = λ j.
          ap (λ xs. get_or xs j 0) (em ∙ ap (λ m. set counts n (m + 1)) ek)
          ∙ one_more counts s.takes t j (n == j) (omega (arith, lt, sound.numbers)) refl (sound.counted j)
          ∙ sym (ap (count_by (λ (x : Take). x.session == j)) et ∙ count_more (λ (x : Take). x.session == j) s.takes t);
    }
