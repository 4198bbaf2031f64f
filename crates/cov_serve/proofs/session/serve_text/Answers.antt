use Rattle.std.proofs.Common.{rules, sym, ap, ◌∙◌}
use Rattle.cov_io.specs.Lists.{beginning_with}
use Rattle.cov_serve.proofs.Goes.{going_closed, going_more, got_closed, got_text}
use Rattle.cov_serve.proofs.session.serve_text.Goals as goal

pub returns-in-Closed-clause-going : goal.returns-in-Closed-clause-going
returns-in-Closed-clause-going g c = λ first before going.
    let old = g.L.Link.state c.args.link.now in
    let new = g.L.Link.state c.recv.new.self in
    let r = c.in_ok-recv.ensures.receives in
    going_closed g.N.Show.tape g.N.Show.pace first c.args.seat.now before old new c.args.desk.now c.args.takes.now going
    (got_closed old.coming new.coming c.in_ok-recv.field-0 c.in-Closed.is r.coming) r.sent

pub returns-in_ok-list-in-Text-clause-going : goal.returns-in_ok-list-in-Text-clause-going
returns-in_ok-list-in-Text-clause-going g c = λ first before going.
    let old = g.L.Link.state c.args.link.now in
    let mid = g.L.Link.state c.recv.new.self in
    let r = c.in_ok-recv.ensures.receives in
    let a = c.in_ok-take-in-Text.ensures in
    going_more g.N.Show.tape g.N.Show.pace first c.args.seat.now c.answer.new.seat before old mid (g.L.Link.state c.answer.new.link) c.args.desk.now c.answer.new.desk c.args.takes.now c.list.new.takes c.in_ok-take-in-Text.take c.as_str.result.now
    going (got_text old.coming mid.coming c.in_ok-recv.field-0 c.in-Text.text c.in-Text.is r.coming ∙ ap (λ text. beginning_with text mid.coming) (sym c.as_str.ensures.value)) r.sent a.sent a.gains a.desk a.proper (search rules)
