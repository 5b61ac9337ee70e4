-- The cycle of readers meets its contracts: where each goes on within the text and the areas (Safe), and what it tells (Told, and the files of
-- the laws that it cites). The bytes left of the text fall at every call.
-- Assumes nothing.
use mathlib.Core.Path.{◌≡◌, refl, sym, ap, ◌∙◌}
use Prim.Native.Char.{code}
use Prim.Native.Nat.{ℕ}
use native.Mathlib.Omega.{arith}
use Rattle.rules.specs.Notation.{into, out}
use Rattle.cursor.proofs.Symbols.{is_that, is_other}
use Rattle.cursor.specs.Takes.{number, reserved_kind, word_kind}
use Rattle.type_reader.specs.Answers.{refused, refused_on}
use Rattle.type_reader.proofs.Begins.{type_name, type_end, type_none}
use Rattle.type_reader.proofs.Handed.{handed_on}
use Rattle.type_reader.proofs.ItemTurns as items
use Rattle.type_reader.proofs.KindNumbers.{open_small, message_stored, choice_stored}
use Rattle.type_reader.proofs.Labelled.{fresh_label}
use Rattle.type_reader.proofs.LabelTurns as labels
use Rattle.type_reader.proofs.Safe.{take_ready, token_long, onward_taken, signed_onward, node_ready, sort_is, label_ready, label_places}
use Rattle.type_reader.proofs.Safe.{sound_past, sound_moved, sound_on, sound_used, sound_ended, sound_step, sound_stored, sound_row, sound_number}
use Rattle.type_reader.proofs.Sorts.{sort_tag}
use Rattle.type_reader.proofs.Told.{message_told₁, message_told₂, message_told₃, message_told₄, message_told₅}
use Rattle.type_reader.proofs.Told.{choice_told₁, choice_told₂, choice_told₃, item_told₁, item_told₂, item_told₃, item_told₄}
use Rattle.type_reader.proofs.Told.{label_told₁, label_told₂, label_told₃, label_told₄}
use Rattle.type_reader.proofs.+types.Goals as goal

pub read_choice-returns-in_err-opened : goal.read_choice-returns-in_err-opened
read_choice-returns-in_err-opened t c =
    let sign = c.requires.2 in
    let e = handed_on c.from_residual.result c.from_residual.ensures.1 in
    record { sound = rw e refused; type_read = rw e (choice_told₁ c.requires.0.ready.short c.in_err-opened.ensures sign.way sign.byte refl) }

pub read_choice-read_labels-requires : goal.read_choice-read_labels-requires
read_choice-read_labels-requires t c =
    let n = node_ready c.requires.0 (omega arith) c.in_ok-opened.ensures in
    (omega (arith, c.decreases, n.further, n.ready.inside), (n.ready, omega (arith, n.shallow), omega (arith, n.nodes)))

pub read_choice-returns-in_err-labels : goal.read_choice-returns-in_err-labels
read_choice-returns-in_err-labels t c =
    let sign = c.requires.2 in
    let e = handed_on c.from_residual-in_err-labels.result c.from_residual-in_err-labels.ensures.1 in
    record { sound = rw e refused; type_read = rw e (choice_told₂ c.requires.0.ready.short c.in_ok-opened.ensures c.in_err-labels.ensures.labels_read sign.way sign.byte refl) }

pub read_choice-returns : goal.read_choice-returns
read_choice-returns t c =
    let sign = c.requires.2 in
    let n = node_ready c.requires.0 (omega arith) c.in_ok-opened.ensures in
    let z = sound_past c.in_ok-labels.ensures.sound in
    record {
      sound = sound_stored _ _ _ (omega (arith, n.further, z.further)) (omega (arith, n.number, n.nodes, z.more)) n.few z.ready c.store.ensures;
      type_read =
          choice_told₃ c.requires.0.ready.short c.in_ok-opened.ensures c.in_ok-labels.ensures.labels_read z.ready.room_nodes c.store.ensures sign.way sign.byte
          refl (choice_stored sign.way sign.kind);
    }

pub read_item-returns-in_err-begun : goal.read_item-returns-in_err-begun
read_item-returns-in_err-begun t c =
    let e = handed_on c.from_residual.result c.from_residual.ensures.1 in
    record { sound = rw e refused_on; item_read = rw e (item_told₁ c.requires.0 c.in_err-begun.ensures _ _) }

pub read_item-returns-in-Some : goal.read_item-returns-in-Some
read_item-returns-in-Some t c =
    let z = sort_is c.in_ok-begun.ensures c.in-Some.is in
    let l = token_long c.requires.0 refl z.known in
    record {
      sound = sound_number _ _ (omega (arith, l, c.requires.0.order)) (omega arith) c.requires.0.ready;
      item_read = rw (sort_tag c.in-Some.sort) (item_told₂ c.requires.0 c.in_ok-begun.ensures c.requires.2 c.in-Some.is);
    }

pub read_item-returns-in_err-session-in-None : goal.read_item-returns-in_err-session-in-None
read_item-returns-in_err-session-in-None t c =
    let e = handed_on c.from_residual-in_err-session-in-None.result c.from_residual-in_err-session-in-None.ensures.1 in
    record { sound = rw e refused_on; item_read = rw e (item_told₃ c.requires.0 c.in_ok-begun.ensures c.requires.2 c.in-None.is c.in_err-session-in-None.ensures.type_read) }

pub read_item-returns-in_ok-session-in-None : goal.read_item-returns-in_ok-session-in-None
read_item-returns-in_ok-session-in-None t c =
    let z = sound_past c.in_ok-session-in-None.ensures.sound in
    let f = c.in_ok-session-in-None.ensures.type_read in
    record {
      sound = sound_number _ _ z.further z.more z.ready;
      item_read = item_told₄ c.requires.0 c.in_ok-begun.ensures c.requires.2 c.in-None.is f z.ready.few_nodes z.ready.room_nodes;
    }

pub read_items-returns-then-is : goal.read_items-returns-then-is
read_items-returns-then-is t c =
    let k = c.take-t.ensures c.requires.0.inside in
    record {
      sound = sound_step (onward_taken c.requires.0 k (is_that _ c.args.closing c.is.ensures c.if-is.true) (omega (arith, c.ranges.closing))) (omega arith);
      items_read = items.turn_none k _ _ (is_that _ c.args.closing c.is.ensures c.if-is.true);
    }

pub read_items-loop-c1-init : goal.read_items-loop-c1-init
read_items-loop-c1-init t c = items.turn_first (take_ready c.requires.0 (c.take-t.ensures c.requires.0.inside))

pub read_items-returns-in_err-c1 : goal.read_items-returns-in_err-c1
read_items-returns-in_err-c1 t c =
    let e = handed_on c.from_residual.result c.from_residual.ensures.1 in
    let f = c.in_err-c1.ensures.item_read in
    record {
      sound = rw e refused;
      items_read = λ d x.
          rw e (items.turn_refused (c.take-t.ensures c.requires.0.inside) (is_other _ _ c.is.ensures c.if-is.false) c.loop-c1.invariant f d x);
    }

pub read_items-returns-then-is-2 : goal.read_items-returns-then-is-2
read_items-returns-then-is-2 t c =
    let k = c.take-t.ensures c.requires.0.inside in
    let z = sound_moved c.in_ok-c1.ensures.sound in
    let m = c.take-mark.ensures z.ready.inside in
    let w = onward_taken z.ready m (is_that _ c.args.closing c.is-in-loop-c1.ensures c.if-is-2.true) (omega (arith, c.ranges.closing)) in
    let f = c.in_ok-c1.ensures.item_read in
    let i = c.loop-c1.invariant in
    record {
      sound = sound_on (sound_step w (omega (arith, f.few refl))) (omega (arith, k.from, i.onward, z.further)) (omega (arith, k.nodes, i.more, z.more));
      items_read = items.turn_closed k (is_other _ _ c.is.ensures c.if-is.false) i f (omega (arith, c.requires.2, k.nodes)) m (is_that _ c.args.closing c.is-in-loop-c1.ensures c.if-is-2.true);
    }

pub read_items-returns-then-not-is : goal.read_items-returns-then-not-is
read_items-returns-then-not-is t c =
    let k = c.take-t.ensures c.requires.0.inside in
    let z = sound_moved c.in_ok-c1.ensures.sound in
    let m = c.take-mark.ensures z.ready.inside in
    let f = c.in_ok-c1.ensures.item_read in
    rw c.refusal.ensures
    (record {
      sound = refused;
      items_read =
          items.turn_other k (is_other _ _ c.is.ensures c.if-is.false) c.loop-c1.invariant f (omega (arith, c.requires.2, k.nodes)) m (is_other _ _ c.is-in-loop-c1.ensures c.if-is-2.false)
          (is_other _ _ c.is-in-loop-c1-2.ensures c.if-not-is.true);
    })

pub read_items-loop-c1-preserved : goal.read_items-loop-c1-preserved
read_items-loop-c1-preserved t c =
    let k = c.take-t.ensures c.requires.0.inside in
    let z = sound_moved c.in_ok-c1.ensures.sound in
    let m = c.take-mark.ensures z.ready.inside in
    let w = onward_taken z.ready m (is_that _ (code ",") c.is-in-loop-c1-2.ensures c.if-not-is.false) (omega arith) in
    let k₂ = c.take-t-in-loop-c1.ensures w.ready.inside in
    items.turn_next k (is_other _ _ c.is.ensures c.if-is.false) c.loop-c1.invariant c.in_ok-c1.ensures.item_read (omega (arith, c.requires.2, k.nodes)) m
    (is_that _ (code ",") c.is-in-loop-c1-2.ensures c.if-not-is.false) k₂
    (take_ready w.ready k₂) (omega (arith, z.further, w.further, k₂.from)) (omega (arith, z.more, w.nodes, k₂.nodes))

pub read_items-loop-c1-smaller : goal.read_items-loop-c1-smaller
read_items-loop-c1-smaller t c =
    let z = sound_moved c.in_ok-c1.ensures.sound in
    let m = c.take-mark.ensures z.ready.inside in
    let w = onward_taken z.ready m (is_that _ (code ",") c.is-in-loop-c1-2.ensures c.if-not-is.false) (omega arith) in
    let k₂ = c.take-t-in-loop-c1.ensures w.ready.inside in
    omega (arith, z.further, w.further, w.ready.inside, k₂.from)

pub read_label-returns-in_err-c1 : goal.read_label-returns-in_err-c1
read_label-returns-in_err-c1 t c =
    let e = handed_on c.from_residual.result c.from_residual.ensures.1 in
    record { sound = rw e refused_on; label_read = rw e (label_told₁ c.requires.0.ready.short c.in_err-c1.ensures _ _) }

pub read_label-returns-in_err-c2 : goal.read_label-returns-in_err-c2
read_label-returns-in_err-c2 t c =
    let e = handed_on c.from_residual-in_err-c2.result c.from_residual-in_err-c2.ensures.1 in
    record { sound = rw e refused_on; label_read = rw e (label_told₂ c.requires.0.ready.short c.in_ok-c1.ensures c.in_err-c2.ensures) }

pub read_label-read_type-requires : goal.read_label-read_type-requires
read_label-read_type-requires t c =
    let l = fresh_label c.in_ok-c1.ensures in
    let p = label_places l.1 in
    let g = signed_onward (label_ready c.requires.0 l.1) c.in_ok-c2.ensures (omega arith) in
    let k = c.take.ensures g.ready.inside in
    (omega (arith, c.decreases, p.0, g.further, k.from, c.requires.0.order, g.ready.inside), (take_ready g.ready k, c.requires.1))

pub read_label-returns-in_err-session : goal.read_label-returns-in_err-session
read_label-returns-in_err-session t c =
    let l = fresh_label c.in_ok-c1.ensures in
    let p = label_places l.1 in
    let g = signed_onward (label_ready c.requires.0 l.1) c.in_ok-c2.ensures (omega arith) in
    let k = c.take.ensures g.ready.inside in
    let e = handed_on c.from_residual-in_err-session.result c.from_residual-in_err-session.ensures.1 in
    record { sound = rw e refused_on; label_read = rw e (label_told₃ c.requires.0.ready.short c.in_ok-c1.ensures c.in_ok-c2.ensures k c.in_err-session.ensures.type_read) }

pub read_label-returns : goal.read_label-returns
read_label-returns t c =
    let l = fresh_label c.in_ok-c1.ensures in
    let p = label_places l.1 in
    let g = signed_onward (label_ready c.requires.0 l.1) c.in_ok-c2.ensures (omega arith) in
    let k = c.take.ensures g.ready.inside in
    let z = sound_past c.in_ok-session.ensures.sound in
    let f = c.in_ok-session.ensures.type_read in
    let few = z.ready.few_nodes in
    record {
      sound =
          sound_row c.args.node c.args.n c.args.t _ (omega (arith, p.0, g.further, k.from, z.further, c.requires.0.order))
          (omega (arith, p.1, g.nodes, k.nodes, z.more)) z.ready c.store_label.ensures;
      label_read = label_told₄ c.requires.0.ready.short c.in_ok-c1.ensures c.in_ok-c2.ensures k f c.requires.2 few z.ready.room_nodes c.store_label.ensures;
    }

pub read_labels-loop-c1-init : goal.read_labels-loop-c1-init
read_labels-loop-c1-init t c = labels.turn_first c.requires.0

pub read_labels-returns-in_err-c1 : goal.read_labels-returns-in_err-c1
read_labels-returns-in_err-c1 t c =
    let e = handed_on c.from_residual.result c.from_residual.ensures.1 in
    record { sound = rw e refused; labels_read = rw e (labels.turn_refused c.loop-c1.invariant (c.take.ensures c.loop-c1.invariant.ready.inside) c.in_err-c1.ensures.label_read) }

pub read_labels-returns-then-is : goal.read_labels-returns-then-is
read_labels-returns-then-is t c =
    let i = c.loop-c1.invariant in
    let k = c.take.ensures i.ready.inside in
    let z = sound_moved c.in_ok-c1.ensures.sound in
    let m = c.take-mark.ensures z.ready.inside in
    let f = c.in_ok-c1.ensures.label_read in
    let w = onward_taken z.ready m (is_that _ (code "}") c.is.ensures c.if-is.true) (omega arith) in
    record {
      sound = sound_on (sound_step w (omega (arith, f.few refl))) (omega (arith, i.onward, k.from, z.further)) (omega (arith, i.more, k.nodes, z.more));
      labels_read = labels.turn_closed i k f c.requires.2 m (is_that _ (code "}") c.is.ensures c.if-is.true);
    }

pub read_labels-returns-then-not-is : goal.read_labels-returns-then-not-is
read_labels-returns-then-not-is t c =
    let i = c.loop-c1.invariant in
    let k = c.take.ensures i.ready.inside in
    let z = sound_moved c.in_ok-c1.ensures.sound in
    let m = c.take-mark.ensures z.ready.inside in
    let f = c.in_ok-c1.ensures.label_read in
    rw c.refusal.ensures
    (record { sound = refused; labels_read = labels.turn_other i k f c.requires.2 m (is_other _ _ c.is.ensures c.if-is.false) (is_other _ _ c.is-in-loop-c1.ensures c.if-not-is.true) })

pub read_labels-loop-c1-preserved : goal.read_labels-loop-c1-preserved
read_labels-loop-c1-preserved t c =
    let i = c.loop-c1.invariant in
    let k = c.take.ensures i.ready.inside in
    let z = sound_moved c.in_ok-c1.ensures.sound in
    let m = c.take-mark.ensures z.ready.inside in
    let f = c.in_ok-c1.ensures.label_read in
    let w = onward_taken z.ready m (is_that _ (code "|") c.is-in-loop-c1.ensures c.if-not-is.false) (omega arith) in
    labels.turn_next i k f c.requires.2 m (is_that _ (code "|") c.is-in-loop-c1.ensures c.if-not-is.false) w.ready (omega (arith, k.from, z.further, w.further))
    (omega (arith, k.nodes, z.more, w.nodes))

pub read_message-returns-in_err-opened : goal.read_message-returns-in_err-opened
read_message-returns-in_err-opened t c =
    let sign = c.requires.2 in
    let b = c.brackets-opening.ensures sign.way sign.kind in
    let e = handed_on c.from_residual.result c.from_residual.ensures.1 in
    record { sound = rw e refused; type_read = rw e (message_told₁ c.requires.0.ready.short c.in_err-opened.ensures sign.way sign.byte b.0) }

pub read_message-read_items-requires : goal.read_message-read_items-requires
read_message-read_items-requires t c =
    let sign = c.requires.2 in
    let b = c.brackets-opening.ensures sign.way sign.kind in
    let n = node_ready c.requires.0 (open_small sign.way b.0) c.in_ok-opened.ensures in
    (omega (arith, c.decreases, n.further, n.ready.inside), (n.ready, omega (arith, n.shallow), omega (arith, n.nodes)))

pub read_message-returns-in_err-items : goal.read_message-returns-in_err-items
read_message-returns-in_err-items t c =
    let sign = c.requires.2 in
    let b = c.brackets-opening.ensures sign.way sign.kind in
    let e = handed_on c.from_residual-in_err-items.result c.from_residual-in_err-items.ensures.1 in
    record { sound = rw e refused; type_read = rw e (message_told₂ c.requires.0.ready.short c.in_ok-opened.ensures c.in_err-items.ensures.items_read sign.way sign.byte b.0 b.1) }

pub read_message-returns-in_err-c : goal.read_message-returns-in_err-c
read_message-returns-in_err-c t c =
    let sign = c.requires.2 in
    let b = c.brackets-opening.ensures sign.way sign.kind in
    let f = c.in_ok-items.ensures.items_read in
    let e = handed_on c.from_residual-in_err-c.result c.from_residual-in_err-c.ensures.1 in
    record { sound = rw e refused; type_read = rw e (message_told₃ c.requires.0.ready.short c.in_ok-opened.ensures f c.in_err-c.ensures sign.way sign.byte b.0 b.1) }

pub read_message-read_type-requires : goal.read_message-read_type-requires
read_message-read_type-requires t c =
    let sign = c.requires.2 in
    let b = c.brackets-opening.ensures sign.way sign.kind in
    let n = node_ready c.requires.0 (open_small sign.way b.0) c.in_ok-opened.ensures in
    let z = sound_past c.in_ok-items.ensures.sound in
    let g = signed_onward z.ready c.in_ok-c.ensures (omega arith) in
    let k = c.take.ensures g.ready.inside in
    (omega (arith, c.decreases, n.further, z.further, g.further, k.from, g.ready.inside), (take_ready g.ready k, c.requires.1))

pub read_message-returns-in_err-then : goal.read_message-returns-in_err-then
read_message-returns-in_err-then t c =
    let sign = c.requires.2 in
    let b = c.brackets-opening.ensures sign.way sign.kind in
    let z = sound_past c.in_ok-items.ensures.sound in
    let f = c.in_ok-items.ensures.items_read in
    let g = signed_onward z.ready c.in_ok-c.ensures (omega arith) in
    let k = c.take.ensures g.ready.inside in
    let e = handed_on c.from_residual-in_err-then.result c.from_residual-in_err-then.ensures.1 in
    record { sound = rw e refused; type_read = rw e (message_told₄ c.requires.0.ready.short c.in_ok-opened.ensures f c.in_ok-c.ensures k c.in_err-then.ensures.type_read sign.way sign.byte b.0 b.1) }

pub read_message-store-requires : goal.read_message-store-requires
read_message-store-requires t c =
    let sign = c.requires.2 in
    let b = c.brackets-opening.ensures sign.way sign.kind in
    (node_ready c.requires.0 (open_small sign.way b.0) c.in_ok-opened.ensures).few

pub read_message-returns : goal.read_message-returns
read_message-returns t c =
    let sign = c.requires.2 in
    let b = c.brackets-opening.ensures sign.way sign.kind in
    let n = node_ready c.requires.0 (open_small sign.way b.0) c.in_ok-opened.ensures in
    let z = sound_past c.in_ok-items.ensures.sound in
    let f = c.in_ok-items.ensures.items_read in
    let g = signed_onward z.ready c.in_ok-c.ensures (omega arith) in
    let k = c.take.ensures g.ready.inside in
    let y = sound_past c.in_ok-then.ensures.sound in
    let h = c.in_ok-then.ensures.type_read in
    record {
      sound =
          sound_stored _ _ _ (omega (arith, n.further, z.further, g.further, k.from, y.further))
          (omega (arith, n.number, n.nodes, z.more, g.nodes, k.nodes, y.more)) n.few y.ready c.store.ensures;
      type_read =
          message_told₅ c.requires.0.ready.short c.in_ok-opened.ensures f c.in_ok-c.ensures k h y.ready.room_nodes c.store.ensures sign.way sign.byte b.0 b.1
          (message_stored sign.way sign.kind);
    }

pub read_type-returns-in-Word : goal.read_type-returns-in-Word
read_type-returns-in-Word t c =
    let r = c.requires.0 in
    let l = token_long r (ap number c.in-Word.is) (omega arith) in
    record {
      sound = sound_used r l c.use_name.ensures;
      type_read =
          type_name r.ready.short _ _ r.ready.room_uses (omega (arith, r.uses_before, r.order, r.ready.inside, r.ready.short)) (ap number c.in-Word.is)
          c.use_name.ensures;
    }

pub read_type-returns-in-End : goal.read_type-returns-in-End
read_type-returns-in-End t c =
    let r = c.requires.0 in
    record {
      sound = sound_ended r (token_long r (ap number c.in-End.is) (omega arith)) c.read_end.ensures;
      type_read = type_end r.ready.short _ _ r.ready.room_nodes (ap number c.in-End.is) c.read_end.ensures;
    }

pub read_type-read_message-requires : goal.read_type-read_message-requires
read_type-read_message-requires t c =
    let e = ap number c.in-Byte-eq63.is ∙ sym c.in-Byte-eq63.field-0-is ∙ c.in-Byte-eq63.field-0-test in
    (omega (arith, c.decreases), (c.requires.0, c.requires.1, record { way = into; byte = e; kind = refl }))

pub read_type-read_message-requires-in-Byte-eq33 : goal.read_type-read_message-requires-in-Byte-eq33
read_type-read_message-requires-in-Byte-eq33 t c =
    let e = ap number c.in-Byte-eq33.is ∙ sym c.in-Byte-eq33.field-0-is ∙ c.in-Byte-eq33.field-0-test in
    (omega (arith, c.decreases), (c.requires.0, c.requires.1, record { way = out; byte = e; kind = refl }))

pub read_type-read_choice-requires : goal.read_type-read_choice-requires
read_type-read_choice-requires t c =
    let e = ap number c.in-Byte-eq38.is ∙ sym c.in-Byte-eq38.field-0-is ∙ c.in-Byte-eq38.field-0-test in
    (omega (arith, c.decreases), (c.requires.0, c.requires.1, record { way = into; byte = e; kind = refl }))

pub read_type-read_choice-requires-in-Byte-eq43 : goal.read_type-read_choice-requires-in-Byte-eq43
read_type-read_choice-requires-in-Byte-eq43 t c =
    let e = ap number c.in-Byte-eq43.is ∙ sym c.in-Byte-eq43.field-0-is ∙ c.in-Byte-eq43.field-0-test in
    (omega (arith, c.decreases), (c.requires.0, c.requires.1, record { way = out; byte = e; kind = refl }))

pub read_type-returns-in_default : goal.read_type-returns-in_default
read_type-returns-in_default t c =
    let k : ℕ = number c.args.t.symbol in
    let word : k ≡ word_kind → ⊥ = λ e. grind arith in
    let reserved : k ≡ reserved_kind → ⊥ = λ e. grind arith in
    let query : k ≡ code "?" → ⊥ = λ e. grind arith in
    let bang : k ≡ code "!" → ⊥ = λ e. grind arith in
    let and : k ≡ code "&" → ⊥ = λ e. grind arith in
    let plus : k ≡ code "+" → ⊥ = λ e. grind arith in
    rw c.refusal.ensures (record { sound = refused; type_read = type_none c.requires.0.ready.short _ _ word reserved query bang and plus })
