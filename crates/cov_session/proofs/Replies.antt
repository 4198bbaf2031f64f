-- The reply of each take is made of the frames of its block.
use Rattle.std.proofs.Common.{◌≡◌, ℕ, zero, suc, List, [], ◌∷◌, refl, ap, ◌∙◌, sym, get_or}
use Rattle.std.specs.Prelude.{Option, None, Some, option_map, slice_get}
use Rattle.cov_model.specs.declared.snapshot.Snapshot.{Snapshot}
use Rattle.cov_messages.specs.declared.request.Flags.{Flags}
use Rattle.cov_session.specs.declared.session.Event.{Event}
use Rattle.cov_session.specs.Machine.{Answered, Done, Started, Taken, Refused, start, answers}
use Rattle.cov_session.specs.View.{taken_view, replies}
use Rattle.cov_session.specs.Fates.{fates}
use Rattle.cov_session.specs.Laws.{blocks, flags_of_takes, taken_snapshots, AreOfTheirFates, FatesOfFrames}
use Rattle.cov_session.proofs.Runs.{frames_of_fates, each_has_one}

of_blocks : (tape : List Snapshot) (told : List (Option Answered)) (k : ℕ)
    → slice_get (taken_snapshots (replies tape told)) k ≡ option_map (λ (flags : Flags). taken_view flags (get_or (blocks tape told) k [])) (slice_get (flags_of_takes told) k)
of_blocks tape [] k = refl
of_blocks tape (None ∷ told) k = of_blocks tape told k
of_blocks tape (Some Done ∷ told) k = of_blocks tape told k
of_blocks tape (Some Started ∷ told) k = of_blocks tape told k
of_blocks tape (Some (Refused code) ∷ told) k = of_blocks tape told k
of_blocks tape (Some (Taken flags since played) ∷ told) zero = refl
of_blocks tape (Some (Taken flags since played) ∷ told) (suc k) = of_blocks tape told k

pub of_their_fates : (tape : List Snapshot) (sessions : ℕ) (events : List Event)
    → AreOfTheirFates tape (fates (start tape 0 sessions) 0 events) (answers (start tape 0 sessions) events) (replies tape (answers (start tape 0 sessions) events))
of_their_fates tape sessions events k =
    let told = answers (start tape 0 sessions) events in
    of_blocks tape told k
    ∙ ap (λ (xs : List Snapshot). option_map (λ (flags : Flags). taken_view flags xs) (slice_get (flags_of_takes told) k)) (sym (frames_of_fates tape sessions events k))

pub fates_of_frames : FatesOfFrames
fates_of_frames tape sessions events = (each_has_one tape sessions events, frames_of_fates tape sessions events, of_their_fates tape sessions events)
