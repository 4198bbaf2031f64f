-- What a step does to a target that only takes play.
use Rattle.std.proofs.Common.{◌≡◌, ℕ, zero, suc, ◌+◌, ◌*◌, ◌<◌, Bool, true, false, List, [], ◌∷◌, ◌++◌, length, map, set, get_or, min, refl, sym, ap, ◌∙◌, subst, arith, length-append, length-set, get_or-set_same, append-nil}
use Rattle.std.specs.Prelude.{Result, Ok, Err, OnOk, OnErr, Option, None, Some, slice_get, if◌then◌else◌}
use Rattle.std.specs.Option.{option_to_list}
use Rattle.std.proofs.lemmas.Bool.{eq-eqb, and_parts, and_from}
use Rattle.std.proofs.lemmas.List.Sums.{sum_by-append}
use Rattle.cov_text.specs.Listing.{counted}
use Rattle.cov_model.specs.declared.snapshot.Snapshot.{Snapshot}
use Rattle.cov_messages.specs.declared.request.Flags.{Flags}
use Rattle.cov_messages.specs.declared.request.Command.{Command}
use Rattle.cov_messages.specs.declared.request.Command.TheVariants as command
use Rattle.cov_session.specs.declared.session.Desk.{Desk}
use Rattle.cov_messages.specs.declared.request.ErrorCode.TheVariants.{NotEnabled}
use Rattle.cov_messages.specs.declared.reply.Reply.{Reply}
use Rattle.cov_messages.specs.declared.reply.Reply.TheVariants as reply
use Rattle.cov_session.specs.View.{taken_view, reply_of}
use Rattle.cov_session.specs.declared.session.Take.{Take}
use Rattle.cov_session.specs.Machine.{Answered, Done, Started, Refused, State, runs, desk_at, idle, dropped, with_desk, dropped_unless, resumed, with_take, take_of, played_by_take, step, answer_to, started_after, taken_after, stopped_after, taken_answer, replied, size_of, frames}
use Rattle.cov_session.specs.Kept.{IsKept}
use Rattle.cov_serve.specs.Served.{start_of, starts_of, is_paced, IsServed}
use Rattle.cov_serve.specs.Seats.{Seated, new_seat, new_seats}
use Rattle.cov_serve.specs.Answering.{take_judged, judged, IsBlock, IsAnswered, take_reply}

paced-push : (len pace k : ℕ) (ts : List Take) (t : Take) → is_paced len pace k ts ≡ true → t.since ≡ min len (pace * (k + length ts)) → t.played ≡ min len (t.since + pace) → is_paced len pace k (ts ++ t ∷ []) ≡ true
paced-push len pace k [] t h e p = and_from _ _ (eq-eqb _ _ (e ∙ ap (λ n. min len (pace * n)) (omega arith))) (and_from _ _ (eq-eqb _ _ p) refl)
paced-push len pace k (x ∷ ts) t h e p =
    let a = and_parts _ _ h in
    let b = and_parts _ _ a.1 in
    and_from _ _ a.0 (and_from _ _ b.0 (paced-push len pace (k + 1) ts t b.1 (e ∙ ap (λ n. min len (pace * n)) (omega arith)) p))

next_block : (len rate k since : ℕ) → since ≡ min len (rate * k) → min len (since + rate) ≡ min len (rate * (k + 1))
next_block len rate k since e = omega (arith, e)

module _ (named : List Snapshot) (rate sessions : ℕ) where
  served_desk : (s : State) (n : ℕ) (d : Desk) → IsServed named rate sessions s → IsServed named rate sessions (with_desk s n d)
  served_desk s n d h =
      record { tape = h.tape; pace = h.pace; desks = length-set s.desks n d ∙ h.desks; since = h.since; played = h.played; discarded = h.discarded; unwatched = h.unwatched; paced = h.paced }

  served_dropped : (s : State) → IsServed named rate sessions s → IsServed named rate sessions (dropped s)
  served_dropped s h =
      record { tape = h.tape; pace = h.pace; desks = h.desks; since = h.played ∙ h.since; played = refl; discarded = omega (arith, h.played, h.discarded); unwatched = h.unwatched; paced = h.paced }

  served_unless : (b : Bool) (s : State) → IsServed named rate sessions s → IsServed named rate sessions (dropped_unless b s)
  served_unless true s h = h
  served_unless false s h = served_dropped s h

  pub served_resumed : (s : State) (n : ℕ) (d : Desk) → IsServed named rate sessions s → IsServed named rate sessions (resumed s n d)
  served_resumed s n d h = served_unless (runs (set s.desks n d)) (with_desk s n d) (served_desk s n d h)

  takes_next : (s : State) → IsServed named rate sessions s → played_by_take s ≡ min (length named) (s.since + rate)
  takes_next s h = omega (arith, ap length h.tape, h.pace, h.played)

  served_take : (s : State) (n : ℕ) → IsServed named rate sessions s → IsServed named rate sessions (with_take s n)
  served_take s n h =
      let e : played_by_take s ≡ min (length named) (s.since + rate) = takes_next s h in
      let l : length (s.takes ++ take_of s n ∷ []) ≡ length s.takes + 1 = length-append s.takes (take_of s n ∷ []) in
      record {
        tape = h.tape;
        pace = h.pace;
        desks = h.desks;
        since = e ∙ next_block (length named) rate (length s.takes) s.since h.since ∙ ap (λ k. min (length named) (rate * k)) (sym l);
        played = refl;
        discarded = h.discarded;
        unwatched = h.unwatched;
        paced = paced-push (length named) rate 0 s.takes (take_of s n) h.paced (h.since ∙ ap (λ k. min (length named) (rate * k)) (omega arith)) e;
      }

  served_started : (b : Bool) (s : State) (n : ℕ) (flags : Flags) → IsServed named rate sessions s → IsServed named rate sessions (started_after b s n flags)
  served_started true s n flags h = served_dropped (with_desk s n _) (served_desk s n _ h)
  served_started false s n flags h = h

  served_taken : (f : Option Flags) (s : State) (n : ℕ) → IsServed named rate sessions s → IsServed named rate sessions (taken_after f s n)
  served_taken None s n h = h
  served_taken (Some flags) s n h = served_take s n h

  served_stopped : (f : Option Flags) (s : State) (n : ℕ) (b : Bool) → IsServed named rate sessions s → IsServed named rate sessions (stopped_after f s n b)
  served_stopped None s n b h = served_desk s n _ h
  served_stopped (Some flags) s n b h = served_resumed s n _ h

  served_stop : (b : Bool) (s : State) (n : ℕ) → IsServed named rate sessions s → IsServed named rate sessions (if b then stopped_after (desk_at s.desks n).started s n true else s)
  served_stop true s n h = served_stopped (desk_at s.desks n).started s n true h
  served_stop false s n h = h

  pub served_step : (s : State) (n : ℕ) (c : Command) → IsServed named rate sessions s → IsServed named rate sessions (step s n c)
  served_step s n command.Enable h = served_desk s n _ h
  served_step s n (command.Start flags) h = served_started (desk_at s.desks n).enabled s n flags h
  served_step s n command.Take h = served_taken (desk_at s.desks n).started s n h
  served_step s n command.Stop h = served_stop (desk_at s.desks n).enabled s n h
  served_step s n command.Disable h = served_stopped (desk_at s.desks n).started s n false h

-- ---- the take that a step adds

abbrev take_by : Option Flags → State → ℕ → Option Take
take_by None s n = None
take_by (Some flags) s n = Some (take_of s n)

abbrev made_by : State → ℕ → Command → Option Take
made_by s n command.Enable = None
made_by s n (command.Start flags) = None
made_by s n command.Take = take_by (desk_at s.desks n).started s n
made_by s n command.Stop = None
made_by s n command.Disable = None

takes_unless : (b : Bool) (s : State) → (dropped_unless b s).takes ≡ s.takes
takes_unless true s = refl
takes_unless false s = refl

pub takes_resumed : (s : State) (n : ℕ) (d : Desk) → (resumed s n d).takes ≡ s.takes
takes_resumed s n d = takes_unless (runs (set s.desks n d)) (with_desk s n d)

pub takes_stopped : (f : Option Flags) (s : State) (n : ℕ) (b : Bool) → (stopped_after f s n b).takes ≡ s.takes
takes_stopped None s n b = refl
takes_stopped (Some flags) s n b = takes_resumed s n _

takes_started : (b : Bool) (s : State) (n : ℕ) (flags : Flags) → (started_after b s n flags).takes ≡ s.takes
takes_started true s n flags = refl
takes_started false s n flags = refl

takes_stop : (b : Bool) (s : State) (n : ℕ) → (if b then stopped_after (desk_at s.desks n).started s n true else s).takes ≡ s.takes
takes_stop true s n = takes_stopped (desk_at s.desks n).started s n true
takes_stop false s n = refl

takes_taken : (f : Option Flags) (s : State) (n : ℕ) → (taken_after f s n).takes ≡ s.takes ++ option_to_list (take_by f s n)
takes_taken None s n = sym (append-nil s.takes)
takes_taken (Some flags) s n = refl

takes_step : (s : State) (n : ℕ) (c : Command) → (step s n c).takes ≡ s.takes ++ option_to_list (made_by s n c)
takes_step s n command.Enable = sym (append-nil s.takes)
takes_step s n (command.Start flags) = takes_started (desk_at s.desks n).enabled s n flags ∙ sym (append-nil s.takes)
takes_step s n command.Take = takes_taken (desk_at s.desks n).started s n
takes_step s n command.Stop = takes_stop (desk_at s.desks n).enabled s n ∙ sym (append-nil s.takes)
takes_step s n command.Disable = takes_stopped (desk_at s.desks n).started s n false ∙ sym (append-nil s.takes)

-- the item behind a list that was lengthened
item_behind : {A : Type 0} (xs : List A) (o : Option A) → slice_get (xs ++ option_to_list o) (length xs) ≡ o
item_behind [] None = refl
item_behind [] (Some x) = refl
item_behind (y ∷ xs) o = item_behind xs o

-- ---- the reply by the desk

module _ (named : List Snapshot) (rate sessions : ℕ) (s : State) (n : ℕ) (h : IsServed named rate sessions s) where
  block : IsBlock (length named) rate n (take_of s n)
  block = record { session = refl; since = (length s.takes, h.since); played = takes_next named rate sessions s h }

  take_told : (flags : Flags) → reply.Taken (taken_view flags (frames s.tape s.since (played_by_take s))) ≡ take_reply named flags (take_of s n)
  take_told flags = λ i. reply.Taken (taken_view flags (frames (h.tape i) s.since (played_by_take s)))

  taken_answered : (f : Option Flags) → IsAnswered named rate n (take_judged f) (reply_of s.tape (taken_answer f s)) (take_by f s n)
  taken_answered None = (refl, refl)
  taken_answered (Some flags) = (take_told flags, block)

  told_if : (b : Bool) (x : Answered) → reply_of s.tape (if b then x else Refused NotEnabled) ≡ (if b then reply_of s.tape x else reply.Refused NotEnabled)
  told_if true x = refl
  told_if false x = refl

  answered : (c : Command) → IsAnswered named rate n (judged (desk_at s.desks n) c) (reply_of s.tape (answer_to s n c)) (made_by s n c)
  answered command.Enable = (refl, refl)
  answered (command.Start flags) = (told_if (desk_at s.desks n).enabled Started, refl)
  answered command.Take = taken_answered (desk_at s.desks n).started
  answered command.Stop = (told_if (desk_at s.desks n).enabled Done, refl)
  answered command.Disable = (refl, refl)

-- ---- resume and step

desk_unless : (b : Bool) (s : State) → (dropped_unless b s).desks ≡ s.desks
desk_unless true s = refl
desk_unless false s = refl

desk_resumed : (s : State) (n : ℕ) (d : Desk) → n < length s.desks → desk_at (resumed s n d).desks n ≡ d
desk_resumed s n d lt = ap (λ ds. get_or ds n idle) (desk_unless (runs (set s.desks n d)) (with_desk s n d)) ∙ get_or-set_same s.desks n d idle lt

-- What the calls of one command leave, s before, q once resumed and t at the end.
module _ (s q t : State) (n : ℕ) (d : Desk) (c : Command) (e : q ≡ resumed s n d) where
  pub stepped_served : {E : Type 0} (r : Result Reply E) → OnOk r (t ≡ step q n c) → OnErr r (t ≡ q) → (named : List Snapshot) (rate sessions : ℕ) → IsServed named rate sessions s → IsServed named rate sessions t
  stepped_served (Ok x) ok err named rate sessions h =
      subst (IsServed named rate sessions) (sym (ok ∙ ap (λ y. step y n c) e)) (served_step named rate sessions (resumed s n d) n c (served_resumed named rate sessions s n d h))
  stepped_served (Err x) ok err named rate sessions h = subst (IsServed named rate sessions) (sym (err ∙ e)) (served_resumed named rate sessions s n d h)

  stepped_made : t ≡ step q n c → t.takes ≡ s.takes ++ option_to_list (made_by q n c)
  stepped_made ok = ap (λ (y : State). y.takes) ok ∙ takes_step q n c ∙ ap (λ ts. ts ++ option_to_list (made_by q n c)) (ap (λ (y : State). y.takes) e ∙ takes_resumed s n d)

  stepped_item : t ≡ step q n c → slice_get t.takes (length s.takes) ≡ made_by q n c
  stepped_item ok = ap (λ ts. slice_get ts (length s.takes)) (stepped_made ok) ∙ item_behind s.takes (made_by q n c)

  pub stepped_takes : t ≡ step q n c → (o : Option Take) → o ≡ slice_get t.takes (length s.takes) → t.takes ≡ s.takes ++ option_to_list o
  stepped_takes ok o i = stepped_made ok ∙ ap (λ x. s.takes ++ option_to_list x) (sym (i ∙ stepped_item ok))

  pub stepped_answered : n < length s.desks → t ≡ step q n c → (r : Reply) → r ≡ reply_of q.tape (answer_to q n c) → (o : Option Take) → o ≡ slice_get t.takes (length s.takes)
      → (named : List Snapshot) (rate sessions : ℕ) → IsServed named rate sessions s → IsAnswered named rate n (judged d c) r o
  stepped_answered lt ok r re o i named rate sessions h =
      let a = answered named rate sessions q n (subst (IsServed named rate sessions) (sym e) (served_resumed named rate sessions s n d h)) c in
      let told = reply_of q.tape (answer_to q n c) in
      let b : IsAnswered named rate n (judged d c) told (made_by q n c) = subst (λ x. IsAnswered named rate n (judged x c) told (made_by q n c)) (ap (λ y. desk_at y.desks n) e ∙ desk_resumed s n d lt) a in
      subst (λ x. IsAnswered named rate n (judged d c) x o) (sym re) (subst (IsAnswered named rate n (judged d c) told) (sym (i ∙ stepped_item ok)) b)

-- ---- a target that has played nothing

pub fresh_served : (named : List Snapshot) (rate sessions : ℕ) (s : State) → IsKept s → s.tape ≡ named → s.pace ≡ rate → length s.desks ≡ sessions → s.played ≡ 0 → s.takes ≡ [] → IsServed named rate sessions s
fresh_served named rate sessions s k a b c d e =
    let z : s.since ≡ 0 = omega (arith, k.order, d) in
    let n : length s.takes ≡ 0 = ap length e in
    record {
      tape = a;
      pace = b;
      desks = c;
      since = z ∙ omega (arith, ap (λ m. rate * m) n);
      played = d ∙ sym z;
      discarded = omega (arith, k.tallied, z);
      unwatched = omega (arith, k.tallied, z);
      paced = ap (is_paced (length named) rate 0) e;
    }

-- ---- sums over takes that were lengthened

pub length_more : (ts us add : List Take) → us ≡ ts ++ add → length us ≡ length ts + length add
length_more ts us add e = ap length e ∙ length-append ts add

pub replied_more : (ts us add : List Take) → us ≡ ts ++ add → replied us ≡ replied ts + replied add
replied_more ts us add e = ap replied e ∙ sum_by-append size_of ts add

pub starts_more : (ts us add : List Take) → us ≡ ts ++ add → starts_of us ≡ starts_of ts + starts_of add
starts_more ts us add e = ap starts_of e ∙ sum_by-append start_of ts add

pub total_more : (now before held more x all : ℕ) → now ≡ before + x → before ≡ held → x ≡ more → all ≡ held + more → now ≡ all
total_more now before held more x all a b c d = omega (arith, a, b, c, d)

-- ---- the seats at their start

seats_end : (n from : ℕ) → map new_seat (counted from (suc n)) ≡ map new_seat (counted from n) ++ new_seat (from + n) ∷ []
seats_end zero from = let e : from ≡ from + 0 = omega arith in (λ i. new_seat (e i) ∷ [])
seats_end (suc n) from =
    let e : suc from + n ≡ from + suc n = omega arith in
    ap (λ xs. new_seat from ∷ xs) (seats_end n (suc from)) ∙ (λ i. new_seat from ∷ (map new_seat (counted (suc from) n) ++ new_seat (e i) ∷ []))

is_new_seat : (seat : Seated) (n : ℕ) → seat.session ≡ n → seat.takes ≡ 0 → seat.frames ≡ 0 → seat.starts ≡ 0 → seat ≡ new_seat n
is_new_seat seat n a b c d = λ i. record { session = a i; takes = b i; frames = c i; starts = d i }

pub seats_more : (n : ℕ) (seats more : List Seated) (seat : Seated) → seats ≡ new_seats n → more ≡ seats ++ seat ∷ [] → seat.session ≡ n → seat.takes ≡ 0 → seat.frames ≡ 0 → seat.starts ≡ 0 → more ≡ new_seats (n + 1)
seats_more n seats more seat e m a b c d =
    let k : suc n ≡ n + 1 = omega arith in
    let z : n ≡ 0 + n = omega arith in
    m ∙ (λ i. e i ++ is_new_seat seat n a b c d i ∷ []) ∙ (λ i. map new_seat (counted 0 n) ++ new_seat (z i) ∷ []) ∙ sym (seats_end n 0) ∙ (λ i. map new_seat (counted 0 (k i)))
