-- `listing_of` meets its contract: where nothing is refused, every area is long enough, and the listing stands at the start of the text.
use Rattle.std.proofs.Common.{rules, refl, sym, ap, length, Ok}
use Rattle.text.proofs.Writing.{length_written, whole}
use Rattle.listing.proofs.Room.{room_passed}
use Rattle.listing.proofs.listing_of.Goals as goal
use Rattle.listing.proofs.listing_of.Goals.{After-checked}

pub unwrap-queue-requires : goal.unwrap-queue-requires
unwrap-queue-requires c =
    let a = c.args in
    let long = (room_passed (length a.marks.now) (length a.queue.now) (length a.text.now) (sym c.in_ok-checked.ensures)).1 in
    search rules

pub written-requires : goal.written-requires
written-requires c =
    let a = c.args in
    (room_passed (length a.marks.now) (length a.queue.now) (length a.text.now) (sym c.in_ok-checked.ensures)).2

pub returns-clause-listed : goal.returns-clause-listed
returns-clause-listed c =
    let a = c.args in
    let w = c.written in
    let l = w.ensures.lines in
    rw (sym c.in_ok-sheet.ensures, sym c.in_ok-checked.ensures) (l.0, l.1, ap Ok (length_written l.0 a.text.now w.new.text w.result l.2), whole l.0 a.text.now w.new.text w.result l.2)

pub returns-clause-marks_after : goal.returns-clause-marks_after
returns-clause-marks_after c =
    rw (sym c.in_ok-sheet.ensures, sym c.in_ok-checked.ensures, c.written.ensures.marks_wiped) refl

pub returns-clause-queue_after : goal.returns-clause-queue_after
returns-clause-queue_after c =
    rw (sym c.in_ok-sheet.ensures, sym c.in_ok-checked.ensures, c.written.ensures.queue_wiped) refl
