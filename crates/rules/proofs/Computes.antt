-- To unfold `computes` is to unfold everything that the twins of a reading and of a verdict compute with.
-- Assumes nothing.
use Rattle.rules.specs.Basics.{same, every, first, listed}
use Rattle.rules.specs.Words.{blank, letter, word_byte, word_bytes, is_word, reserved_position, reserved, may_name}
use Rattle.rules.specs.Tokens.{word_front, tokens_from, tokens, symbol}
use Rattle.rules.specs.Formed.{label_formed, label_new, message_formed, choice_formed, node_formed, well_formed}
use Rattle.rules.specs.Numbering.{definition_leads, follow, link, table_of}
use Rattle.rules.specs.Refusals.{one_of, begins_behind, brackets_after, nodes_after, seen_after, among}
use Rattle.rules.specs.Dual.{hands_over_at, hands_over, remade, dual}
use Rattle.rules.specs.Pairs.{kinds_differ, counts_differ, item_differs, position, lacks, label_lacking, mismatch_of, message_step, choice_step, step_of, mismatch_at, step_at}
use Rattle.rules.specs.Replies.{count_marks, dual_reply, chooser, chooser_names, found_fits, missing_label}
use Rattle.rules.specs.Line.{first_text, second_text, digits, field, fields}
use Rattle.rules.specs.computed.Reading.{expect, rest_with, item_with, items_with, message_with, more_with, labels_with, choice_with, type_with, readers, text_from, token_fault, walk, undefined, rounds, named, judged, reading}
use Rattle.rules.specs.computed.Verdict.{reached, visit, expand, explore, outcome, marked_at, marks_of, settle, verdict}
use Rattle.rules.specs.computed.Line.{first_line, printed}

unfoldable pub computes : Unit {0}
unfolding same every first listed blank letter word_byte word_bytes is_word reserved_position reserved may_name word_front tokens_from tokens symbol label_formed label_new message_formed choice_formed node_formed well_formed definition_leads follow link table_of one_of begins_behind brackets_after nodes_after seen_after among hands_over_at hands_over remade dual kinds_differ counts_differ item_differs position lacks label_lacking mismatch_of message_step choice_step step_of mismatch_at step_at count_marks dual_reply chooser chooser_names found_fits missing_label first_text second_text digits field fields expect rest_with item_with items_with message_with more_with labels_with choice_with type_with readers text_from token_fault walk undefined rounds named judged reading reached visit expand explore outcome marked_at marks_of settle verdict first_line printed
computes = tt
