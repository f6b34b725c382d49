use Rattle.std.proofs.Common.{◌∙◌}
use Rattle.semantics.specs.Meanings.{phase_of, sent_of}
use Rattle.model.proofs.Answers.{phase_asked}
use Rattle.model.proofs.Known.{unknown_phase, known_quiet, known_busy, unknown_words}
use Rattle.model.proofs.model.Model.known_phase.Goals as goal

pub returns-in_err-k : goal.returns-in_err-k
returns-in_err-k c =
    let self = c.args.self.now in
    let s = c.args.stance in
    c.from_residual.ensures
    ∙ unknown_phase self.book.now c.args.station (phase_of s) (sent_of s)
    (c.in_err-k.ensures.value ∙ phase_asked self.book.now self.bytes self.accepted self.places self.placed c.args.station (phase_of s) c.requires)

pub returns-then-sent-eq0 : goal.returns-then-sent-eq0
returns-then-sent-eq0 c =
    let self = c.args.self.now in
    let s = c.args.stance in
    known_quiet self.book.now c.args.station (phase_of s) (sent_of s) c.in_ok-k.k
    (c.in_ok-k.ensures.value ∙ phase_asked self.book.now self.bytes self.accepted self.places self.placed c.args.station (phase_of s) c.requires)
    c.if-sent-eq0.true

pub returns-in_err-word_at : goal.returns-in_err-word_at
returns-in_err-word_at c =
    let self = c.args.self.now in
    let s = c.args.stance in
    c.from_residual-in_err-word_at.ensures
    ∙ unknown_words self.book.now c.args.station (phase_of s) (sent_of s) c.in_ok-k.k
    (c.in_ok-k.ensures.value ∙ phase_asked self.book.now self.bytes self.accepted self.places self.placed c.args.station (phase_of s) c.requires)
    c.if-sent-eq0.false c.in_err-word_at.ensures

pub returns : goal.returns
returns c =
    let self = c.args.self.now in
    let s = c.args.stance in
    known_busy self.book.now c.args.station (phase_of s) (sent_of s) c.in_ok-k.k
    (c.in_ok-k.ensures.value ∙ phase_asked self.book.now self.bytes self.accepted self.places self.placed c.args.station (phase_of s) c.requires)
    c.in_ok-word_at.field-0 c.in_ok-word_at.ensures
