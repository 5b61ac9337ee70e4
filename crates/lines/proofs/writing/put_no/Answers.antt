-- `lines::writing::put_no` meets its contract: the word, what was found, the steps, the line feed.
-- Assumes nothing.
use mathlib.Core.List.{◌++◌}
use lib.ListN.{take}
use Rattle.rules.specs.Basics.{bytes}
use Rattle.lines.specs.Adding.{found_fields}
use Rattle.lines.proofs.Adding.{adds_line}
use Rattle.lines.proofs.Room.{room_begins, word_room, room_some, room_behind, room_all, room_feed, adds_some}
use Rattle.lines.proofs.writing.put_no.Goals as goal

pub put_word-a-requires : goal.put_word-a-requires
put_word-a-requires c =
    let ks = take c.args.f.steps c.args.path.now in
    word_room c.args.line.now (bytes "no") (found_fields c.args.f ++ ks) c.requires.1

pub put_fields-b-requires : goal.put_fields-b-requires
put_fields-b-requires c =
    let ks = take c.args.f.steps c.args.path.now in
    room_some (found_fields c.args.f) ks (room_begins (found_fields c.args.f ++ ks) c.put_word-a.ensures c.requires.1)

pub put_steps-c-requires : goal.put_steps-c-requires
put_steps-c-requires c =
    let ks = take c.args.f.steps c.args.path.now in
    let a = room_begins (found_fields c.args.f ++ ks) c.put_word-a.ensures c.requires.1 in
    room_all (room_behind (found_fields c.args.f) ks a c.put_fields-b.ensures)

pub put_byte-requires : goal.put_byte-requires
put_byte-requires c =
    let ks = take c.args.f.steps c.args.path.now in
    let a = room_begins (found_fields c.args.f ++ ks) c.put_word-a.ensures c.requires.1 in
    room_feed (room_behind (found_fields c.args.f) ks a c.put_fields-b.ensures) c.put_steps-c.ensures

pub returns : goal.returns
returns c =
    let ks = take c.args.f.steps c.args.path.now in
    adds_line (found_fields c.args.f ++ ks) c.put_word-a.ensures
    (adds_some (found_fields c.args.f) ks c.put_fields-b.ensures c.put_steps-c.ensures) c.put_byte.ensures
