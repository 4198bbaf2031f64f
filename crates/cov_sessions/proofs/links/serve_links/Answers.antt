use Rattle.std.proofs.Common.{◌≡◌, ℕ, List, length, map, sym, ap, ◌∙◌, subst}
use Rattle.std.specs.Prelude.{IfOk, None}
use Rattle.std.proofs.lemmas.List.{length-map}
use Rattle.cov_text.specs.Listing.{counted}
use Rattle.cov_links.specs.Together.{telling}
use Rattle.cov_serve.specs.Seats.{Seated, new_seat}
use Rattle.cov_sessions.specs.Seating.{SeatsTell, outcomes_in}
use Rattle.cov_sessions.specs.Sessions.{least_fault}
use Rattle.cov_sessions.proofs.Together.{plays, seats-length}
use Rattle.cov_sessions.proofs.links.serve_links.Goals as goal

pub seated-requires-clause-each : goal.seated-requires-clause-each
seated-requires-clause-each g c =
    c.in-Ok.seats.ok.0 ∙ ap length c.in-Ok.ensures ∙ seats-length g.N.Show.sessions 0 ∙ sym c.requires.each ∙ sym c.args.links.ok.0

pub returns : goal.returns
returns g c =
    let olds = c.seated.result.items in
    let nows = c.serve_seated-sessions.result.items in
    let told = c.told_of-told.result in
    let fault = c.least_fault-fault.result in
    let many : g.N.Show.sessions ≡ length olds = sym c.requires.each ∙ ap length (sym c.seated.ensures.links) ∙ length-map olds (λ s. s.link) in
    plays (telling g.L.Link.state g.L.Link.faults) g.N.Show.tape g.N.Show.pace (λ s. s.link) (λ s. s.seat) (λ s. s.takes) g.N.Show.sessions olds nows c.args.links.items
    c.unseated-links.result.links.items fault told c.serve_seated-sessions.ensures.len
    (c.seated.ensures.seats ∙ c.in-Ok.ensures ∙ ap (λ n. map new_seat (counted 0 n)) many) c.serve_seated-sessions.ensures.ends c.seated.ensures.links c.unseated-links.ensures.links
    (c.least_fault-fault.ensures ∙ ap (λ ss. least_fault (outcomes_in ss)) c.as_slice.ensures.value)
    (subst (λ (seats : List Seated). IfOk told (λ tally. (fault ≡ None) × SeatsTell g.N.Show.tape g.N.Show.pace g.N.Show.sessions seats tally)) c.unseated-links.ensures.seats c.told_of-told.ensures.ok)
    c.told_of-told.ensures.err
