-- A session that goes on.
use Rattle.std.specs.Prelude.{◌≡◌, ℕ, true, List, [], ◌∷◌, Option}
use Rattle.cov_io.specs.Links.{LinkState}
use Rattle.cov_io.specs.Lists.{ending_with}
use Rattle.cov_model.specs.declared.snapshot.Snapshot.{Snapshot}
use Rattle.cov_messages.specs.declared.reply.Reply.{Reply}
use Rattle.cov_messages.specs.declared.request.Request.{Request}
use Rattle.cov_messages.specs.Replies.{reply_text}
use Rattle.cov_messages.specs.Requests.{request_of}
use Rattle.cov_session.specs.declared.session.Desk.{Desk}
use Rattle.cov_session.specs.declared.session.Take.{Take}
use Rattle.cov_session.specs.Machine.{idle}
use Rattle.cov_session.specs.Kept.{is_proper}
use Rattle.cov_serve.specs.Seats.{Seated, Gains}
use Rattle.cov_serve.specs.Answering.{IsAnswered, Went, desk_after_body, judged_body}

-- the desk that these texts leave
abbrev pub desk_left : Desk → List (List ℕ) → Desk
desk_left d [] = d
desk_left d (text ∷ texts) = desk_left (desk_after_body d (request_of text).body) texts

-- A session that began with this seat and link, and has this desk, seat and link after these takes.
pub record Going (tape : List Snapshot) (pace : ℕ) (first seat : Seated) (before now : LinkState) (desk : Desk) (takes : List Take) : Type 0 where
  pub went : Went tape pace first.session before now takes
  pub gains : Gains first seat takes
  pub left : desk ≡ desk_left idle went.received
  pub proper : is_proper desk ≡ true

-- One text is sent for a request, by the desk or with the frames of a take. The texts to come stay.
pub record Sends (tape : List Snapshot) (pace session : ℕ) (desk : Desk) (request : Request) (take : Option Take) (before now : LinkState) : Type 0 where
  pub reply : Reply
  pub answered : IsAnswered tape pace session (judged_body desk request.body) reply take
  pub sent : now.sent ≡ ending_with (reply_text request.id reply) before.sent
  pub coming : now.coming ≡ before.coming
