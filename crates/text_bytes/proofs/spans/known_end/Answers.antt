use Rattle.std.proofs.Common.{ℕ, ◌+◌, ◌≤◌, length, subst, sym, ◌∙◌, arith}
use Rattle.std.specs.Int.Count.{count_trailing_zeros}
use Rattle.text_bytes.specs.Spans.{Spans}
use Rattle.text_bytes.proofs.Spanning.{span_none, span_few, span_block, span_stop, within, passes_there, span_byte, one_if}
use Rattle.text_bytes.proofs.spans.known_end.Goals as goal

pub loop-at-init : goal.loop-at-init
loop-at-init c = span_none _ _ _ _ c.requires

pub loop-at-preserved : goal.loop-at-preserved
loop-at-preserved c =
    let room : c.loop-at.at + 16 ≤ length c.args.text.now = omega (arith, c.loop-at-test.true, c.if-text-ge-LANES.true) in
    span_block _ _ _ _ _ _ _ _ c.loop-at.invariant room c.unsure_bits-unsure.ensures c.begin_bits-first.ensures c.if-unsure-ne0.false

pub overflow_add-count : goal.overflow_add-count
overflow_add-count c =
    let room : c.loop-at.at + 16 ≤ length c.args.text.now = omega (arith, c.loop-at-test.true, c.if-text-ge-LANES.true) in
    let s =
    span_block _ _ _ _ _ _ _ _ c.loop-at.invariant room c.unsure_bits-unsure.ensures c.begin_bits-first.ensures c.if-unsure-ne0.false
    in
    omega (arith, span_few _ _ _ _ _ _ s, s.inside)

pub ones_below-requires : goal.ones_below-requires
ones_below-requires c =
    let room : c.loop-at.at + 16 ≤ length c.args.text.now = omega (arith, c.loop-at-test.true, c.if-text-ge-LANES.true) in
    omega (arith, within _ _ _ _ room c.unsure_bits-unsure.ensures c.if-unsure-ne0.true)

pub overflow_add-result-then-unsure-ne0 : goal.overflow_add-result-then-unsure-ne0
overflow_add-result-then-unsure-ne0 c =
    let room : c.loop-at.at + 16 ≤ length c.args.text.now = omega (arith, c.loop-at-test.true, c.if-text-ge-LANES.true) in
    let s =
    span_stop _ _ _ _ _ _ _ _ c.loop-at.invariant room c.unsure_bits-unsure.ensures c.begin_bits-first.ensures c.if-unsure-ne0.true
    in
    omega (arith, c.ones_below.ensures, span_few _ _ _ _ _ _ s, s.inside)

pub returns-then-unsure-ne0-clause-spans : goal.returns-then-unsure-ne0-clause-spans
returns-then-unsure-ne0-clause-spans c =
    let room : c.loop-at.at + 16 ≤ length c.args.text.now = omega (arith, c.loop-at-test.true, c.if-text-ge-LANES.true) in
    subst (λ (n : ℕ). Spans c.args.known c.args.colon c.args.text.now c.args.from (c.loop-at.at + count_trailing_zeros 64 c.unsure_bits-unsure.result) (c.loop-at.count + n)) (sym c.ones_below.ensures)
    (span_stop _ _ _ _ _ _ _ _ c.loop-at.invariant room c.unsure_bits-unsure.ensures c.begin_bits-first.ensures c.if-unsure-ne0.true)

pub returns-then-unsure-ne0-clause-stops : goal.returns-then-unsure-ne0-clause-stops
returns-then-unsure-ne0-clause-stops c =
    let room : c.loop-at.at + 16 ≤ length c.args.text.now = omega (arith, c.loop-at-test.true, c.if-text-ge-LANES.true) in
    λ h.
    passes_there _ _ _ _ room c.unsure_bits-unsure.ensures c.if-unsure-ne0.true

pub loop-at-2-preserved : goal.loop-at-2-preserved
loop-at-2-preserved c =
    subst (λ (n : ℕ). Spans c.args.known c.args.colon c.args.text.now c.args.from (c.loop-at-2.at + 1) (c.loop-at-2.count + n)) (sym (c.from-count.ensures ∙ one_if c.begins_one.result))
    (span_byte _ _ _ _ _ _ c.loop-at-2.invariant c.loop-at-2-test.true _ (sym c.is_unsure-in-loop-at-2.ensures ∙ c.if-not-is_unsure.true) c.begins_one.ensures)
