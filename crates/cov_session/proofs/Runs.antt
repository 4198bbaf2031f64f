-- Over all events, each take has the frames whose fate it is.
use Rattle.std.proofs.Common.{◌≡◌, ℕ, zero, suc, ◌+◌, ◌-◌, ◌<◌, ◌≤◌, Bool, true, false, ◌&&◌, ◌||◌, not, List, [], ◌∷◌, ◌++◌, length, set, get_or, take, drop, replicate, refl, sym, ap, ◌∙◌, arith, append_assoc, append-nil, length-append, length-set, drop-cons}
use Rattle.std.specs.Prelude.{Option, None, Some, option_map, is_some, nat_lt, ◌==◌, if◌then◌else◌}
use Rattle.std.proofs.lemmas.Bool.Decides.{nat_tests}
use Rattle.cov_model.specs.declared.snapshot.Snapshot.{Snapshot}
use Rattle.cov_session.specs.declared.session.Desk.{Desk}
use Rattle.cov_messages.specs.declared.request.Flags.{Flags}
use Rattle.cov_messages.specs.declared.request.Command.TheVariants as command
use Rattle.cov_messages.specs.declared.request.ErrorCode.TheVariants.{NotEnabled}
use Rattle.cov_messages.specs.declared.reply.Reply.{Reply}
use Rattle.cov_session.specs.declared.session.Event.{Event}
use Rattle.cov_session.specs.declared.session.Event.TheVariants as event
use Rattle.cov_session.specs.declared.session.Fate.{Fate}
use Rattle.cov_session.specs.declared.session.Fate.TheVariants.{InReply, Discarded, Unwatched, Held}
use Rattle.cov_session.specs.Machine.{Done, Started, Refused, State, start, idle_desks, runs, desk_at, dropped, with_desk, dropped_unless, played_one, take_of, played_by_take, step, started_after, taken_after, taken_answer, stopped_after, left_after, after, after_all, answer, answers, frames, held, frame_is_left}
use Rattle.cov_session.specs.View.{reply_of, replies}
use Rattle.cov_session.specs.Kept.{IsKept, is_proper}
use Rattle.cov_session.specs.Fates.{is_take, is_start, is_end, is_frame, decided, fate, fates, is_in_reply, picked, all_fates, settled_by}
use Rattle.cov_session.specs.Laws.{block, blocks}
use Rattle.cov_session.proofs.Keeps.{kept_desk, kept_drop, kept_unwatched, kept_take, kept_start, runs-set}

-- ---- picking

picked-nil : {A : Type 0} (k : ℕ) (fs : List Fate) → picked {A = A} k fs [] ≡ []
picked-nil k [] = refl
picked-nil k (f ∷ fs) = refl

picked-skip : {A : Type 0} (k : ℕ) (f : Fate) (fs : List Fate) (xs : List A) → is_in_reply k f ≡ false → picked k (f ∷ fs) xs ≡ picked k fs (drop 1 xs)
picked-skip k f fs [] e = sym (picked-nil k fs)
picked-skip k f fs (x ∷ xs) e = ap (λ b. if b then x ∷ picked k fs xs else picked k fs xs) e

picked-skips : {A : Type 0} (k n : ℕ) (f : Fate) (fs : List Fate) (xs : List A) → is_in_reply k f ≡ false → picked k (replicate n f ++ fs) xs ≡ picked k fs (drop n xs)
picked-skips k zero f fs xs e = refl
picked-skips k (suc n) f fs [] e = sym (picked-nil k fs)
picked-skips k (suc n) f fs (x ∷ xs) e = ap (λ b. if b then x ∷ picked k (replicate n f ++ fs) xs else picked k (replicate n f ++ fs) xs) e ∙ picked-skips k n f fs xs e

picked-all : {A : Type 0} (k n : ℕ) (f : Fate) (fs : List Fate) (xs : List A) → is_in_reply k f ≡ true → picked k (replicate n f ++ fs) xs ≡ take n xs ++ picked k fs (drop n xs)
picked-all k zero f fs xs e = refl
picked-all k (suc n) f fs [] e = sym (picked-nil k fs)
picked-all k (suc n) f fs (x ∷ xs) e = ap (λ b. if b then x ∷ picked k (replicate n f ++ fs) xs else picked k (replicate n f ++ fs) xs) e ∙ ap (λ ys. x ∷ ys) (picked-all k n f fs xs e)

replicate-back : {A : Type 0} (n : ℕ) (x : A) (xs : List A) → replicate n x ++ x ∷ xs ≡ replicate (suc n) x ++ xs
replicate-back zero x xs = refl
replicate-back (suc n) x xs = ap (λ ys. x ∷ ys) (replicate-back n x xs)

drop-nil : {A : Type 0} (n : ℕ) → drop {A = A} n [] ≡ []
drop-nil zero = refl
drop-nil (suc n) = refl

drop_on : {A : Type 0} (n m : ℕ) (xs : List A) → drop n (drop m xs) ≡ drop (m + n) xs
drop_on n zero xs = ap (λ k. drop k xs) (omega arith)
drop_on n (suc m) [] = drop-nil n ∙ sym (drop-nil (suc m + n))
drop_on n (suc m) (x ∷ xs) = drop_on n m xs ∙ ap (λ k. drop k (x ∷ xs)) {x = suc (m + n)} {y = suc m + n} (omega arith)

-- ---- what an event does

-- an accepted start, or an end after which no session is started
abbrev pub ends : State → Event → Bool
ends s e = is_start s e || (is_end e && not (runs (after s e).desks))

pub record Common (s t : State) : Type 0 where
  pub kept : IsKept t
  pub slow : t.pace ≡ 0
  pub tape : t.tape ≡ s.tape
  pub desks : length t.desks ≡ length s.desks

pub record Quiet (s : State) (e : Event) (t : State) : Type 0 where
  pub common : Common s t
  pub no_take : is_take s e ≡ false
  pub no_end : ends s e ≡ false
  pub no_frame : is_frame s e ≡ false
  pub since : t.since ≡ s.since
  pub played : t.played ≡ s.played
  pub takes : length t.takes ≡ length s.takes
  pub silent : block s.tape (answer s e) ≡ []
  pub discarded : t.discarded ≡ s.discarded
  pub unwatched : t.unwatched ≡ s.unwatched

pub record Drops (s : State) (e : Event) (t : State) : Type 0 where
  pub common : Common s t
  pub no_take : is_take s e ≡ false
  pub an_end : ends s e ≡ true
  pub no_frame : is_frame s e ≡ false
  pub since : t.since ≡ s.played
  pub played : t.played ≡ s.played
  pub takes : length t.takes ≡ length s.takes
  pub silent : block s.tape (answer s e) ≡ []
  pub discarded : t.discarded ≡ s.discarded + (s.played - s.since)
  pub unwatched : t.unwatched ≡ s.unwatched

pub record Takes (s : State) (e : Event) (t : State) : Type 0 where
  pub common : Common s t
  pub a_take : is_take s e ≡ true
  pub no_frame : is_frame s e ≡ false
  pub since : t.since ≡ s.played
  pub played : t.played ≡ s.played
  pub takes : length t.takes ≡ length s.takes + 1
  pub told : block s.tape (answer s e) ≡ frames s.tape s.since s.played ∷ []
  pub discarded : t.discarded ≡ s.discarded
  pub unwatched : t.unwatched ≡ s.unwatched

pub record Plays (s : State) (e : Event) (t : State) (d : Bool) : Type 0 where
  pub common : Common s t
  pub is : e ≡ event.Frame
  pub a_frame : is_frame s e ≡ true
  pub running : runs s.desks ≡ d
  pub since : t.since ≡ (if d then s.since else s.played + 1)
  pub played : t.played ≡ s.played + 1
  pub takes : length t.takes ≡ length s.takes
  pub discarded : t.discarded ≡ s.discarded
  pub unwatched : t.unwatched ≡ (if d then s.unwatched else s.unwatched + 1)

pub data Effect (s : State) (e : Event) (t : State) : Type 0 where
  quiet : Quiet s e t → Effect s e t
  drops : Drops s e t → Effect s e t
  takes : Takes s e t → Effect s e t
  holds : Plays s e t true → Effect s e t
  misses : Plays s e t false → Effect s e t

true_false : true ≡ false → ⊥
true_false e = cc

ends_by : (s : State) (e : Event) (t : State) (b : Bool) → after s e ≡ t → is_start s e ≡ false → is_end e ≡ true → runs t.desks ≡ b → ends s e ≡ not b
ends_by s e t b at no_start an_end r = (λ i. no_start i || (an_end i && not (runs (at i).desks))) ∙ ap not r

-- ---- the effect of each event

-- a state with another desk, and what is discarded where none runs
common_desk : (s : State) (n : ℕ) (d : Desk) → IsKept s → s.pace ≡ 0 → is_proper d ≡ true → (runs (set s.desks n d) ≡ false → s.since ≡ s.played) → Common s (with_desk s n d)
common_desk s n d k z p still = record { kept = kept_desk s n d k p still; slow = z; tape = refl; desks = length-set s.desks n d }

common_drop : (s : State) (n : ℕ) (d : Desk) → IsKept s → s.pace ≡ 0 → is_proper d ≡ true → Common s (dropped (with_desk s n d))
common_drop s n d k z p = record { kept = kept_drop s n d k p; slow = z; tape = refl; desks = length-set s.desks n d }

common_same : (s : State) → IsKept s → s.pace ≡ 0 → Common s s
common_same s k z = record { kept = k; slow = z; tape = refl; desks = refl }

enabled : (s : State) (n : ℕ) → IsKept s → s.pace ≡ 0 → Effect s (event.Command n command.Enable) (step s n command.Enable)
enabled s n k z =
    let d : Desk = record { enabled = true; started = (desk_at s.desks n).started } in
    quiet (record { common = common_desk s n d k z refl (λ f. k.still (sym (runs-set s.desks n d refl) ∙ f)); no_take = refl; no_end = refl; no_frame = refl; since = refl; played = refl; takes = refl; silent = refl; discarded = refl; unwatched = refl })

started : (s : State) (n : ℕ) (flags : Flags) (b : Bool) → IsKept s → s.pace ≡ 0 → (desk_at s.desks n).enabled ≡ b → Effect s (event.Command n (command.Start flags)) (started_after b s n flags)
started s n flags true k z e =
    drops (record { common = common_drop s n _ k z refl; no_take = refl; an_end = ap (λ b. b || false) e; no_frame = refl; since = refl; played = refl; takes = refl; silent = ap (λ b. block s.tape (Some (if b then Started else Refused NotEnabled))) e; discarded = refl; unwatched = refl })
started s n flags false k z e =
    quiet (record { common = common_same s k z; no_take = refl; no_end = ap (λ b. b || false) e; no_frame = refl; since = refl; played = refl; takes = refl; silent = ap (λ b. block s.tape (Some (if b then Started else Refused NotEnabled))) e; discarded = refl; unwatched = refl })

slow_take : (s : State) → IsKept s → s.pace ≡ 0 → played_by_take s ≡ s.played
slow_take s k z = omega (arith, k.within, z)

taken : (s : State) (n : ℕ) (f : Option Flags) → IsKept s → s.pace ≡ 0 → (desk_at s.desks n).started ≡ f → Effect s (event.Command n command.Take) (taken_after f s n)
taken s n None k z e =
    quiet (record { common = common_same s k z; no_take = ap is_some e; no_end = refl; no_frame = refl; since = refl; played = refl; takes = refl; silent = ap (λ g. block s.tape (Some (taken_answer g s))) e; discarded = refl; unwatched = refl })
taken s n (Some flags) k z e =
    let p = slow_take s k z in
    takes (record {
      common = record { kept = kept_take s n k; slow = z; tape = refl; desks = refl };
      a_take = ap is_some e;
      no_frame = refl;
      since = p;
      played = p;
      takes = length-append s.takes (take_of s n ∷ []);
      told = ap (λ g. block s.tape (Some (taken_answer g s))) e ∙ ap (λ q. frames s.tape s.since q ∷ []) p;
      discarded = refl;
      unwatched = refl;
    })

no_loss : (s : State) (b : Bool) → (b ≡ false → s.since ≡ s.played) → s.discarded ≡ (if b then s.discarded else s.discarded + (s.played - s.since))
no_loss s true h = refl
no_loss s false h = omega (arith, h refl)

-- a stop, a disable or a leave, by whether the session was started and whether one is after it
pub record Ended (s t : State) : Type 0 where
  pub common : Common s t
  pub takes : length t.takes ≡ length s.takes
  pub played : t.played ≡ s.played
  pub runs_on : runs t.desks ≡ true → t.since ≡ s.since
  pub is_still : runs t.desks ≡ false → t.since ≡ s.played
  pub discarded : t.discarded ≡ (if runs t.desks then s.discarded else s.discarded + (s.played - s.since))
  pub unwatched : t.unwatched ≡ s.unwatched

ended_by : (s : State) (n : ℕ) (d : Desk) (b : Bool) → IsKept s → s.pace ≡ 0 → is_proper d ≡ true → runs (set s.desks n d) ≡ b → Ended s (dropped_unless b (with_desk s n d))
ended_by s n d true k z p e = record { common = common_desk s n d k z p (λ f. absurd (true_false (sym e ∙ f))); takes = refl; played = refl; runs_on = λ _. refl; is_still = λ f. absurd (true_false (sym e ∙ f)); discarded = ap (λ b. if b then s.discarded else s.discarded + (s.played - s.since)) (sym e); unwatched = refl }
ended_by s n d false k z p e = record { common = common_drop s n d k z p; takes = refl; played = refl; runs_on = λ f. absurd (true_false (sym f ∙ e)); is_still = λ _. refl; discarded = ap (λ b. if b then s.discarded else s.discarded + (s.played - s.since)) (sym e); unwatched = refl }

proper_stop : (b : Bool) → is_proper (record { enabled = b; started = None }) ≡ true
proper_stop true = refl
proper_stop false = refl

stopped : (s : State) (n : ℕ) (f : Option Flags) (b : Bool) → IsKept s → s.pace ≡ 0 → (desk_at s.desks n).started ≡ f → Ended s (stopped_after f s n b)
stopped s n None b k z e =
    let d : Desk = record { enabled = b; started = None } in
    let same = runs-set s.desks n d (ap is_some (sym e)) in
    record { common = common_desk s n d k z (proper_stop b) (λ f. k.still (sym same ∙ f)); takes = refl; played = refl; runs_on = λ _. refl; is_still = λ f. k.still (sym same ∙ f); discarded = no_loss s (runs (set s.desks n d)) (λ f. k.still (sym same ∙ f)); unwatched = refl }
stopped s n (Some flags) b k z e = let d : Desk = record { enabled = b; started = None } in ended_by s n d (runs (set s.desks n d)) k z (proper_stop b) refl

ended_effect : (s : State) (e : Event) (t : State) (b : Bool) → after s e ≡ t → is_take s e ≡ false → is_start s e ≡ false → is_end e ≡ true → is_frame s e ≡ false → block s.tape (answer s e) ≡ [] → Ended s t → runs t.desks ≡ b → Effect s e t
ended_effect s e t true at no_take no_start an_end no_frame silent h r =
    quiet (record { common = h.common; no_take = no_take; no_end = ends_by s e t true at no_start an_end r; no_frame = no_frame; since = h.runs_on r; played = h.played; takes = h.takes; silent = silent; discarded = h.discarded ∙ ap (λ b. if b then s.discarded else s.discarded + (s.played - s.since)) r; unwatched = h.unwatched })
ended_effect s e t false at no_take no_start an_end no_frame silent h r =
    drops (record { common = h.common; no_take = no_take; an_end = ends_by s e t false at no_start an_end r; no_frame = no_frame; since = h.is_still r; played = h.played; takes = h.takes; silent = silent; discarded = h.discarded ∙ ap (λ b. if b then s.discarded else s.discarded + (s.played - s.since)) r; unwatched = h.unwatched })

stop_ended : (s : State) (n : ℕ) (b : Bool) → IsKept s → s.pace ≡ 0 → Ended s (if b then stopped_after (desk_at s.desks n).started s n true else s)
stop_ended s n true k z = stopped s n (desk_at s.desks n).started true k z refl
stop_ended s n false k z = record { common = common_same s k z; takes = refl; played = refl; runs_on = λ _. refl; is_still = k.still; discarded = no_loss s (runs s.desks) k.still; unwatched = refl }

stop_silent : (s : State) (b : Bool) → block s.tape (Some (if b then Done else Refused NotEnabled)) ≡ []
stop_silent s true = refl
stop_silent s false = refl

stop_effect : (s : State) (n : ℕ) (b : Bool) → IsKept s → s.pace ≡ 0 → (desk_at s.desks n).enabled ≡ b → Effect s (event.Command n command.Stop) (if b then stopped_after (desk_at s.desks n).started s n true else s)
stop_effect s n b k z e =
    let t = if b then stopped_after (desk_at s.desks n).started s n true else s in
    ended_effect s (event.Command n command.Stop) t (runs t.desks) (ap (λ c. if c then stopped_after (desk_at s.desks n).started s n true else s) e) refl refl refl refl (stop_silent s (desk_at s.desks n).enabled) (stop_ended s n b k z) refl

left_effect : (s : State) (n : ℕ) (e : Event) → IsKept s → s.pace ≡ 0 → after s e ≡ left_after s n → is_take s e ≡ false → is_start s e ≡ false → is_end e ≡ true → is_frame s e ≡ false → block s.tape (answer s e) ≡ [] → Effect s e (left_after s n)
left_effect s n e k z at a b c d f = ended_effect s e (left_after s n) (runs (left_after s n).desks) at a b c d f (stopped s n (desk_at s.desks n).started false k z refl) refl

kept_held : (s : State) → IsKept s → runs s.desks ≡ true → s.played < length s.tape → IsKept (played_one true s)
kept_held s k r less =
    record { order = omega (arith, k.order); within = omega (arith, less); still = λ f. absurd (true_false (sym r ∙ f)); chained = k.chained; numbered = k.numbered; tallied = k.tallied; proper = k.proper }

left_to_play : (s : State) → frame_is_left s ≡ true → s.played < length s.tape
left_to_play s e = grind (arith, nat_tests)

frame_runs : (s : State) (r : Bool) → IsKept s → s.pace ≡ 0 → frame_is_left s ≡ true → runs s.desks ≡ r → Effect s event.Frame (played_one r s)
frame_runs s true k z l e = holds (record { common = record { kept = kept_held s k e (left_to_play s l); slow = z; tape = refl; desks = refl }; is = refl; a_frame = l; running = e; since = refl; played = refl; takes = refl; discarded = refl; unwatched = refl })
frame_runs s false k z l e = misses (record { common = record { kept = kept_unwatched s k e (left_to_play s l); slow = z; tape = refl; desks = refl }; is = refl; a_frame = l; running = e; since = refl; played = refl; takes = refl; discarded = refl; unwatched = refl })

frame_effect : (s : State) (l : Bool) → IsKept s → s.pace ≡ 0 → frame_is_left s ≡ l → Effect s event.Frame (if l then played_one (runs s.desks) s else s)
frame_effect s true k z e = frame_runs s (runs s.desks) k z e refl
frame_effect s false k z e = quiet (record { common = common_same s k z; no_take = refl; no_end = refl; no_frame = e; since = refl; played = refl; takes = refl; silent = refl; discarded = refl; unwatched = refl })

pub effect : (s : State) (e : Event) → IsKept s → s.pace ≡ 0 → Effect s e (after s e)
effect s event.Frame k z = frame_effect s (frame_is_left s) k z refl
effect s (event.Leave n) k z = left_effect s n (event.Leave n) k z refl refl refl refl refl refl
effect s (event.Command n command.Enable) k z = enabled s n k z
effect s (event.Command n (command.Start flags)) k z = started s n flags (desk_at s.desks n).enabled k z refl
effect s (event.Command n command.Take) k z = taken s n (desk_at s.desks n).started k z refl
effect s (event.Command n command.Stop) k z = stop_effect s n (desk_at s.desks n).enabled k z refl
effect s (event.Command n command.Disable) k z = left_effect s n (event.Command n command.Disable) k z refl refl refl refl refl refl

-- ---- whole runs

common_of : {s : State} {e : Event} {t : State} → Effect s e t → Common s t
common_of (quiet q) = q.common
common_of (drops q) = q.common
common_of (takes q) = q.common
common_of (holds q) = q.common
common_of (misses q) = q.common

grows : {s : State} {e : Event} {t : State} → Effect s e t → length s.takes ≤ length t.takes
grows (quiet q) = omega (arith, q.takes)
grows (drops q) = omega (arith, q.takes)
grows (takes q) = omega (arith, q.takes)
grows (holds q) = omega (arith, q.takes)
grows (misses q) = omega (arith, q.takes)

decided_take : (s : State) (place : ℕ) (e : Event) (es : List Event) → is_take s e ≡ true → decided s place (e ∷ es) ≡ InReply (length s.takes)
decided_take s place e es p = ap (λ b. if b then InReply (length s.takes) else (if ends s e then Discarded place else decided (after s e) (suc place) es)) p

decided_end : (s : State) (place : ℕ) (e : Event) (es : List Event) → is_take s e ≡ false → ends s e ≡ true → decided s place (e ∷ es) ≡ Discarded place
decided_end s place e es p q =
    ap (λ b. if b then InReply (length s.takes) else (if ends s e then Discarded place else decided (after s e) (suc place) es)) p
    ∙ ap (λ b. if b then Discarded place else decided (after s e) (suc place) es) q

decided_on : (s : State) (place : ℕ) (e : Event) (es : List Event) → is_take s e ≡ false → ends s e ≡ false → decided s place (e ∷ es) ≡ decided (after s e) (suc place) es
decided_on s place e es p q =
    ap (λ b. if b then InReply (length s.takes) else (if ends s e then Discarded place else decided (after s e) (suc place) es)) p
    ∙ ap (λ b. if b then Discarded place else decided (after s e) (suc place) es) q

decided_frame : (s : State) (place : ℕ) (e : Event) (es : List Event) → e ≡ event.Frame → decided s place (e ∷ es) ≡ decided (after s e) (suc place) es
decided_frame s place e es is = decided_on s place e es (ap (is_take s) is) (ap (ends s) is)

fates_on : (s : State) (place : ℕ) (e : Event) (es : List Event) → is_frame s e ≡ false → fates s place (e ∷ es) ≡ fates (after s e) (suc place) es
fates_on s place e es p = ap (λ b. if b then fate s (suc place) es ∷ fates (after s e) (suc place) es else fates (after s e) (suc place) es) p

fates_one : (s : State) (place : ℕ) (e : Event) (es : List Event) → is_frame s e ≡ true → fates s place (e ∷ es) ≡ fate s (suc place) es ∷ fates (after s e) (suc place) es
fates_one s place e es p = ap (λ b. if b then fate s (suc place) es ∷ fates (after s e) (suc place) es else fates (after s e) (suc place) es) p

fate_held : (s : State) (place : ℕ) (e : Event) (es : List Event) → e ≡ event.Frame → runs s.desks ≡ true → fate s place es ≡ decided (after s e) place es
fate_held s place e es is r = ap (λ b. if b then decided (after s event.Frame) place es else Unwatched) r ∙ ap (λ x. decided (after s x) place es) (sym is)

fate_missed : (s : State) (place : ℕ) (es : List Event) → runs s.desks ≡ false → fate s place es ≡ Unwatched
fate_missed s place es r = ap (λ b. if b then decided (after s event.Frame) place es else Unwatched) r

other : (n k : ℕ) → k < n → (n == k) ≡ false
other n k lt = grind (arith, nat_tests)

another : (n k : ℕ) → n < k → (n == k) ≡ false
another n k lt = grind (arith, nat_tests)

same : (n k : ℕ) → k ≡ n → (n == k) ≡ true
same n k e = grind (arith, nat_tests)

-- what is to come is in no earlier reply
decided_late_by : (e : Event) (es : List Event) (s : State) (place k : ℕ) → k < length s.takes → Effect s e (after s e) → is_in_reply k (decided (after s e) (suc place) es) ≡ false → is_in_reply k (decided s place (e ∷ es)) ≡ false
decided_late_by e es s place k lt (quiet q) h = ap (is_in_reply k) (decided_on s place e es q.no_take q.no_end) ∙ h
decided_late_by e es s place k lt (drops q) h = ap (is_in_reply k) (decided_end s place e es q.no_take q.an_end)
decided_late_by e es s place k lt (takes q) h = ap (is_in_reply k) (decided_take s place e es q.a_take) ∙ other (length s.takes) k lt
decided_late_by e es s place k lt (holds q) h = ap (is_in_reply k) (decided_frame s place e es q.is) ∙ h
decided_late_by e es s place k lt (misses q) h = ap (is_in_reply k) (decided_frame s place e es q.is) ∙ h

decided_late : (es : List Event) (s : State) (place k : ℕ) → IsKept s → s.pace ≡ 0 → k < length s.takes → is_in_reply k (decided s place es) ≡ false
decided_late [] s place k kept slow lt = refl
decided_late (e ∷ es) s place k kept slow lt =
    let f = effect s e kept slow in
    let c = common_of f in
    decided_late_by e es s place k lt f (decided_late es (after s e) (suc place) k c.kept c.slow (omega (arith, lt, grows f)))

fates_late_by : {A : Type 0} (e : Event) (es : List Event) (s : State) (place k : ℕ) → k < length s.takes → Effect s e (after s e) → is_in_reply k (decided (after s e) (suc place) es) ≡ false
    → ((xs : List A) → picked k (fates (after s e) (suc place) es) xs ≡ []) → (xs : List A) → picked k (fates s place (e ∷ es)) xs ≡ []
fates_late_by e es s place k lt (quiet q) d h xs = ap (λ fs. picked k fs xs) (fates_on s place e es q.no_frame) ∙ h xs
fates_late_by e es s place k lt (drops q) d h xs = ap (λ fs. picked k fs xs) (fates_on s place e es q.no_frame) ∙ h xs
fates_late_by e es s place k lt (takes q) d h xs = ap (λ fs. picked k fs xs) (fates_on s place e es q.no_frame) ∙ h xs
fates_late_by e es s place k lt (holds q) d h xs =
    ap (λ fs. picked k fs xs) (fates_one s place e es q.a_frame)
    ∙ picked-skip k (fate s (suc place) es) (fates (after s e) (suc place) es) xs (ap (is_in_reply k) (fate_held s (suc place) e es q.is q.running) ∙ d)
    ∙ h (drop 1 xs)
fates_late_by e es s place k lt (misses q) d h xs =
    ap (λ fs. picked k fs xs) (fates_one s place e es q.a_frame)
    ∙ picked-skip k (fate s (suc place) es) (fates (after s e) (suc place) es) xs (ap (is_in_reply k) (fate_missed s (suc place) es q.running))
    ∙ h (drop 1 xs)

fates_late : {A : Type 0} (es : List Event) (s : State) (place k : ℕ) → IsKept s → s.pace ≡ 0 → k < length s.takes → (xs : List A) → picked k (fates s place es) xs ≡ []
fates_late [] s place k kept slow lt xs = refl
fates_late (e ∷ es) s place k kept slow lt xs =
    let f = effect s e kept slow in
    let c = common_of f in
    let on : k < length (after s e).takes = omega (arith, lt, grows f) in
    fates_late_by e es s place k lt f (decided_late es (after s e) (suc place) k c.kept c.slow on) (fates_late es (after s e) (suc place) k c.kept c.slow on) xs

none_held : (t : State) (place : ℕ) (es : List Event) → held t ≡ 0 → all_fates t place es ≡ fates t place es
none_held t place es z = ap (λ n. replicate n (decided t place es) ++ fates t place es) z

to_played : (s : State) → IsKept s → s.since + held s ≡ s.played
to_played s k = omega (arith, k.order)

here : {n : ℕ} (s : State) → IsKept s → n ≡ s.played → s.since + held s ≡ n
here s k e = to_played s k ∙ sym e

zero_add : (k : ℕ) → k ≡ 0 + k
zero_add k = omega arith

claim_by : (e : Event) (es : List Event) (s : State) (place : ℕ) → IsKept s → Effect s e (after s e)
    → ((k : ℕ) → k < length (after s e).takes → picked k (fates (after s e) (suc place) es) (drop s.played s.tape) ≡ [])
    → ((k : ℕ) → picked (length (after s e).takes + k) (all_fates (after s e) (suc place) es) (drop (after s e).since (after s e).tape) ≡ get_or (blocks (after s e).tape (answers (after s e) es)) k [])
    → (k : ℕ) → picked (length s.takes + k) (all_fates s place (e ∷ es)) (drop s.since s.tape) ≡ get_or (blocks s.tape (answers s (e ∷ es))) k []
claim_by e es s place kept (quiet q) late h k =
    let t = after s e in
    (λ i. picked (sym q.takes i + k) (replicate (sym q.played i - sym q.since i) (decided_on s place e es q.no_take q.no_end i) ++ fates_on s place e es q.no_frame i) (drop (sym q.since i) (sym q.common.tape i)))
    ∙ h k ∙ (λ i. get_or (sym q.silent i ++ blocks (q.common.tape i) (answers t es)) k [])
claim_by e es s place kept (drops q) late h k =
    let t = after s e in
    let K = length s.takes + k in
    (λ i. picked K (replicate (held s) (decided_end s place e es q.no_take q.an_end i) ++ fates_on s place e es q.no_frame i) (drop s.since s.tape))
    ∙ picked-skips K (held s) (Discarded place) (fates t (suc place) es) (drop s.since s.tape) refl
    ∙ ap (picked K (fates t (suc place) es)) (drop_on (held s) s.since s.tape ∙ (λ i. drop (here s kept q.since i) (sym q.common.tape i)))
    ∙ (λ i. picked (sym q.takes i + k) (sym (none_held t (suc place) es (omega (arith, q.since, q.played))) i) (drop t.since t.tape))
    ∙ h k ∙ (λ i. get_or (sym q.silent i ++ blocks (q.common.tape i) (answers t es)) k [])
claim_by e es s place kept (takes q) late h zero =
    let t = after s e in
    let K = length s.takes + 0 in
    (λ i. picked K (replicate (held s) (decided_take s place e es q.a_take i) ++ fates_on s place e es q.no_frame i) (drop s.since s.tape))
    ∙ picked-all K (held s) (InReply (length s.takes)) (fates t (suc place) es) (drop s.since s.tape) (same (length s.takes) K (omega arith))
    ∙ ap (λ ys. frames s.tape s.since s.played ++ ys) (ap (picked K (fates t (suc place) es)) (drop_on (held s) s.since s.tape ∙ ap (λ n. drop n s.tape) (to_played s kept)) ∙ late K (omega (arith, q.takes)))
    ∙ append-nil (frames s.tape s.since s.played)
    ∙ (λ i. get_or (sym q.told i ++ blocks s.tape (answers t es)) 0 [])
claim_by e es s place kept (takes q) late h (suc k) =
    let t = after s e in
    let K = length s.takes + suc k in
    let n : K ≡ length t.takes + k = omega (arith, q.takes) in
    (λ i. picked K (replicate (held s) (decided_take s place e es q.a_take i) ++ fates_on s place e es q.no_frame i) (drop s.since s.tape))
    ∙ picked-skips K (held s) (InReply (length s.takes)) (fates t (suc place) es) (drop s.since s.tape) (another (length s.takes) K (omega arith))
    ∙ ap (picked K (fates t (suc place) es)) (drop_on (held s) s.since s.tape ∙ (λ i. drop (here s kept q.since i) (sym q.common.tape i)))
    ∙ (λ i. picked (n i) (sym (none_held t (suc place) es (omega (arith, q.since, q.played))) i) (drop t.since t.tape))
    ∙ h k ∙ (λ i. get_or (sym q.told i ++ blocks (q.common.tape i) (answers t es)) (suc k) [])
claim_by e es s place kept (holds q) late h k =
    let t = after s e in
    let d = decided t (suc place) es in
    let n : suc (held s) ≡ held t = omega (arith, q.since, q.played, kept.order) in
    let silent : [] ≡ block s.tape (answer s e) = ap (λ x. block s.tape (answer s x)) (sym q.is) in
    (λ i. picked (length s.takes + k) (replicate (held s) (decided_frame s place e es q.is i) ++ (fates_one s place e es q.a_frame ∙ ap (λ x. x ∷ fates t (suc place) es) (fate_held s (suc place) e es q.is q.running)) i) (drop s.since s.tape))
    ∙ ap (λ fs. picked (length s.takes + k) fs (drop s.since s.tape)) (replicate-back (held s) d (fates t (suc place) es))
    ∙ (λ i. picked (sym q.takes i + k) (replicate (n i) d ++ fates t (suc place) es) (drop (sym q.since i) (sym q.common.tape i)))
    ∙ h k ∙ (λ i. get_or (silent i ++ blocks (q.common.tape i) (answers t es)) k [])
claim_by e es s place kept (misses q) late h k =
    let t = after s e in
    let K = length s.takes + k in
    let still = kept.still q.running in
    let silent : [] ≡ block s.tape (answer s e) = ap (λ x. block s.tape (answer s x)) (sym q.is) in
    let next : s.since + 1 ≡ t.since = omega (arith, q.since, still) in
    ap (λ fs. picked K fs (drop s.since s.tape)) (none_held s place (e ∷ es) (omega (arith, still)) ∙ fates_one s place e es q.a_frame ∙ ap (λ x. x ∷ fates t (suc place) es) (fate_missed s (suc place) es q.running))
    ∙ picked-skip K Unwatched (fates t (suc place) es) (drop s.since s.tape) refl
    ∙ ap (picked K (fates t (suc place) es)) (drop_on 1 s.since s.tape ∙ (λ i. drop (next i) (sym q.common.tape i)))
    ∙ (λ i. picked (sym q.takes i + k) (sym (none_held t (suc place) es (omega (arith, q.since, q.played))) i) (drop t.since t.tape))
    ∙ h k ∙ (λ i. get_or (silent i ++ blocks (q.common.tape i) (answers t es)) k [])

claim : (es : List Event) (s : State) (place : ℕ) → IsKept s → s.pace ≡ 0 → (k : ℕ) → picked (length s.takes + k) (all_fates s place es) (drop s.since s.tape) ≡ get_or (blocks s.tape (answers s es)) k []
claim [] s place kept slow k = picked-skips (length s.takes + k) (held s) Held [] (drop s.since s.tape) refl
claim (e ∷ es) s place kept slow k =
    let f = effect s e kept slow in
    let c = common_of f in
    claim_by e es s place kept f (λ j lt. fates_late es (after s e) (suc place) j c.kept c.slow lt (drop s.played s.tape)) (claim es (after s e) (suc place) c.kept c.slow) k

-- each played frame has a fate
counted_by : (e : Event) (es : List Event) (s : State) (place : ℕ) → Effect s e (after s e) → length (fates (after s e) (suc place) es) + (after s e).played ≡ (after_all (after s e) es).played
    → length (fates s place (e ∷ es)) + s.played ≡ (after_all s (e ∷ es)).played
counted_by e es s place (quiet q) h = omega (arith, h, q.played, ap length (fates_on s place e es q.no_frame))
counted_by e es s place (drops q) h = omega (arith, h, q.played, ap length (fates_on s place e es q.no_frame))
counted_by e es s place (takes q) h = omega (arith, h, q.played, ap length (fates_on s place e es q.no_frame))
counted_by e es s place (holds q) h = omega (arith, h, q.played, ap length (fates_one s place e es q.a_frame))
counted_by e es s place (misses q) h = omega (arith, h, q.played, ap length (fates_one s place e es q.a_frame))

counted : (es : List Event) (s : State) (place : ℕ) → IsKept s → s.pace ≡ 0 → length (fates s place es) + s.played ≡ (after_all s es).played
counted [] s place kept slow = omega arith
counted (e ∷ es) s place kept slow =
    let f = effect s e kept slow in
    let c = common_of f in
    counted_by e es s place f (counted es (after s e) (suc place) c.kept c.slow)

pub each_has_one : (tape : List Snapshot) (sessions : ℕ) (events : List Event) → length (fates (start tape 0 sessions) 0 events) ≡ (after_all (start tape 0 sessions) events).played
each_has_one tape sessions events =
    let s = start tape 0 sessions in
    omega (arith, counted events s 0 (kept_start tape 0 sessions (idle_desks sessions) refl) refl)

pub frames_of_fates : (tape : List Snapshot) (sessions : ℕ) (events : List Event) (k : ℕ)
    → picked k (fates (start tape 0 sessions) 0 events) tape ≡ get_or (blocks tape (answers (start tape 0 sessions) events)) k []
frames_of_fates tape sessions events k =
    let s = start tape 0 sessions in
    (λ i. picked (zero_add k i) (fates s 0 events) tape) ∙ claim events s 0 (kept_start tape 0 sessions (idle_desks sessions) refl) refl k

-- ---- as the code calls it: the fates that are settled by an event, by what rose

no_less : (a b : ℕ) → b ≡ a → nat_lt a b ≡ false
no_less a b e = grind (arith, nat_tests)

one_less : (a b : ℕ) → b ≡ a + 1 → nat_lt a b ≡ true
one_less a b e = grind (arith, nat_tests)

abbrev pick : {A : Type 0} → Bool → Bool → Bool → A → A → A → A → A
pick a b c u v w x = if a then u else if b then v else if c then w else x

more : (a b n : ℕ) → b ≡ a + suc n → nat_lt a b ≡ true
more a b n e = grind (arith, nat_tests)

-- where nothing was discarded, nothing was held
rises : (a b n : ℕ) (f : Fate) (c : Bool) → b ≡ a + n → nat_lt a b ≡ c → (if c then replicate n f else []) ≡ replicate n f
rises a b n f true e l = refl
rises a b zero f false e l = refl
rises a b (suc n) f false e l = absurd (true_false (sym (more a b n e) ∙ l))

settles_by : (e : Event) (es : List Event) (s : State) (place : ℕ) → IsKept s → Effect s e (after s e)
    → settled_by s (after s e) place ++ all_fates (after s e) (suc place) es ≡ all_fates s place (e ∷ es)
settles_by e es s place kept (quiet q) =
    let t = after s e in
    (λ i. pick (no_less s.unwatched t.unwatched q.unwatched i) (no_less (length s.takes) (length t.takes) q.takes i) (no_less s.discarded t.discarded q.discarded i) (Unwatched ∷ []) (replicate (held s) (InReply (length s.takes))) (replicate (held s) (Discarded place)) [] ++ all_fates t (suc place) es)
    ∙ (λ i. replicate (q.played i - q.since i) (sym (decided_on s place e es q.no_take q.no_end) i) ++ sym (fates_on s place e es q.no_frame) i)
settles_by e es s place kept (drops q) =
    let t = after s e in
    let n : held t ≡ 0 = omega (arith, q.since, q.played) in
    let f : fates t (suc place) es ≡ fates s place (e ∷ es) = sym (fates_on s place e es q.no_frame) in
    (λ i. pick (no_less s.unwatched t.unwatched q.unwatched i) (no_less (length s.takes) (length t.takes) q.takes i) (nat_lt s.discarded t.discarded) (Unwatched ∷ []) (replicate (held s) (InReply (length s.takes))) (replicate (held s) (Discarded place)) [] ++ none_held t (suc place) es n i)
    ∙ ap (λ fs. fs ++ fates t (suc place) es) (rises s.discarded t.discarded (held s) (Discarded place) (nat_lt s.discarded t.discarded) q.discarded refl)
    ∙ (λ i. replicate (held s) (sym (decided_end s place e es q.no_take q.an_end) i) ++ f i)
settles_by e es s place kept (takes q) =
    let t = after s e in
    let n : held t ≡ 0 = omega (arith, q.since, q.played) in
    let f : fates t (suc place) es ≡ fates s place (e ∷ es) = sym (fates_on s place e es q.no_frame) in
    (λ i. pick (no_less s.unwatched t.unwatched q.unwatched i) (one_less (length s.takes) (length t.takes) q.takes i) (nat_lt s.discarded t.discarded) (Unwatched ∷ []) (replicate (held s) (InReply (length s.takes))) (replicate (held s) (Discarded place)) [] ++ none_held t (suc place) es n i)
    ∙ (λ i. replicate (held s) (sym (decided_take s place e es q.a_take) i) ++ f i)
settles_by e es s place kept (holds q) =
    let t = after s e in
    let d = decided t (suc place) es in
    let n : held t ≡ suc (held s) = omega (arith, q.since, q.played, kept.order) in
    (λ i. pick (no_less s.unwatched t.unwatched q.unwatched i) (no_less (length s.takes) (length t.takes) q.takes i) (no_less s.discarded t.discarded q.discarded i) (Unwatched ∷ []) (replicate (held s) (InReply (length s.takes))) (replicate (held s) (Discarded place)) [] ++ (replicate (n i) d ++ fates t (suc place) es))
    ∙ sym (replicate-back (held s) d (fates t (suc place) es))
    ∙ sym (λ i. replicate (held s) (decided_frame s place e es q.is i) ++ (fates_one s place e es q.a_frame ∙ ap (λ x. x ∷ fates t (suc place) es) (fate_held s (suc place) e es q.is q.running)) i)
settles_by e es s place kept (misses q) =
    let t = after s e in
    let n : held t ≡ 0 = omega (arith, q.since, q.played) in
    let m : held s ≡ 0 = omega (arith, kept.still q.running) in
    (λ i. pick (one_less s.unwatched t.unwatched q.unwatched i) (nat_lt (length s.takes) (length t.takes)) (nat_lt s.discarded t.discarded) (Unwatched ∷ []) (replicate (held s) (InReply (length s.takes))) (replicate (held s) (Discarded place)) [] ++ none_held t (suc place) es n i)
    ∙ sym (none_held s place (e ∷ es) m ∙ fates_one s place e es q.a_frame ∙ ap (λ x. x ∷ fates t (suc place) es) (fate_missed s (suc place) es q.running))

pub settles : (e : Event) (es : List Event) (s : State) (place : ℕ) → IsKept s → s.pace ≡ 0 → settled_by s (after s e) place ++ all_fates (after s e) (suc place) es ≡ all_fates s place (e ∷ es)
settles e es s place kept slow = settles_by e es s place kept (effect s e kept slow)

pub kept_after : (s : State) (e : Event) → IsKept s → s.pace ≡ 0 → Common s (after s e)
kept_after s e kept slow = common_of (effect s e kept slow)

at_most : {s : State} {e : Event} {t : State} → Effect s e t → length t.takes ≤ length s.takes + 1
at_most (quiet q) = omega (arith, q.takes)
at_most (drops q) = omega (arith, q.takes)
at_most (takes q) = omega (arith, q.takes)
at_most (holds q) = omega (arith, q.takes)
at_most (misses q) = omega (arith, q.takes)

pub takes_after : (s : State) (e : Event) → IsKept s → s.pace ≡ 0 → length (after s e).takes ≤ length s.takes + 1
takes_after s e kept slow = at_most (effect s e kept slow)

-- ---- the loop

pub replies_more : (tape : List Snapshot) (done more : List (Option Reply)) (s t : State) (e : Event) (es : List Event) (r : Option Reply) (whole : List (Option Reply))
    → done ++ replies tape (answers s (e ∷ es)) ≡ whole → t ≡ after s e → r ≡ option_map (reply_of tape) (answer s e) → more ≡ done ++ r ∷ [] → more ++ replies tape (answers t es) ≡ whole
replies_more tape done more s t e es r whole h et er em =
    (λ i. (em ∙ ap (λ x. done ++ x ∷ []) er) i ++ replies tape (answers (et i) es))
    ∙ append_assoc done (option_map (reply_of tape) (answer s e) ∷ []) (replies tape (answers (after s e) es)) ∙ h

pub fates_more : (done more : List Fate) (s t : State) (place : ℕ) (e : Event) (es : List Event) (whole : List Fate) → IsKept s → s.pace ≡ 0 → done ++ all_fates s place (e ∷ es) ≡ whole → t ≡ after s e → more ≡ done ++ settled_by s t place → more ++ all_fates t (place + 1) es ≡ whole
fates_more done more s t place e es whole kept slow h et em =
    let n : place + 1 ≡ suc place = omega arith in
    (λ i. (em ∙ ap (λ x. done ++ settled_by s x place) et) i ++ all_fates (et i) (n i) es)
    ∙ append_assoc done (settled_by s (after s e) place) (all_fates (after s e) (suc place) es) ∙ ap (λ fs. done ++ fs) (settles e es s place kept slow) ∙ h

pub drop_here : {A : Type 0} (xs : List A) (i : ℕ) (d : A) → i < length xs → drop i xs ≡ get_or xs i d ∷ drop (i + 1) xs
drop_here xs i d lt = let n : suc i ≡ i + 1 = omega arith in drop-cons xs i d lt ∙ ap (λ k. get_or xs i d ∷ drop k xs) n
