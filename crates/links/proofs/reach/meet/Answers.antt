use Rattle.links.proofs.Meeting.{queue_room, grown_at}
use Rattle.links.proofs.reach.meet.Goals as goal

pub bounds-list-count : goal.bounds-list-count
bounds-list-count c = queue_room _ _ _ _ c.requires _ c.if-place-n.false c.if-marks-place.false

pub returns : goal.returns
returns c = grown_at _ _ _ _ c.requires _ _ c.from-place.ensures c.if-place-eq0.false c.if-place-n.false c.if-marks-place.false
