-- `lines::writing::put_line` meets its contract: the word, the fields, the line feed.
-- Assumes nothing.
use Rattle.lines.proofs.Adding.{adds_line}
use Rattle.lines.proofs.Room.{room_begins, word_room, room_all, room_feed}
use Rattle.lines.proofs.writing.put_line.Goals as goal

pub put_word-a-requires : goal.put_word-a-requires
put_word-a-requires c = word_room c.args.line.now c.args.word.now c.args.all.now c.requires

pub put_fields-b-requires : goal.put_fields-b-requires
put_fields-b-requires c = room_all (room_begins c.args.all.now c.put_word-a.ensures c.requires)

pub put_byte-requires : goal.put_byte-requires
put_byte-requires c = room_feed (room_begins c.args.all.now c.put_word-a.ensures c.requires) c.put_fields-b.ensures

pub returns : goal.returns
returns c = adds_line c.args.all.now c.put_word-a.ensures c.put_fields-b.ensures c.put_byte.ensures
