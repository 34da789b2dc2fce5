-- `replay::RunText::next_line` meets its contract. Assumes nothing.
use Rattle.std.proofs.Common.{◌∙◌, ap, refl, append-nil}
use Rattle.std.proofs.lemmas.List.{nil_from_length}
use Rattle.trace_run.proofs.Running.{stands_record, stands_none, stands_refused, place_after}
use Rattle.replay.specs.Replay.{last_line, lines_left, text_left}
use Rattle.replay.proofs.Texts.{line_stands, no_line}
use Rattle.replay.proofs.RunText.next_line.Goals as goal

pub returns-in-Ok-Some-clause-text : goal.returns-in-Ok-Some-clause-text
unfolding text_left
returns-in-Ok-Some-clause-text c =
    let q = c.args.self.now in
    let here = stands_record q.reader.position q.reader.bytes.now q.reader.bytes.now _ _ _ refl c.next_record.ensures.yields c.in-Ok-Some.is c.in-Ok-Some.field-0-is in
    let place = c.next_record.ensures.moves ∙ place_after q.reader.position _ _ _ refl here in
    rw (c.requires, place, ap (λ b. b.now) c.next_record.ensures.keeps, c.code_text.ensures, c.in-Some.ensures.cases.0)
    (line_stands q.reader.bytes.now q.reader.position q.seconds c.in-Some.field-0-0.now c.in-Some.codes.now (last_line q.outcome.done q.outcome.number) c.in-Ok-Some.record here)

pub returns-in_default-clause-text : goal.returns-in_default-clause-text
unfolding text_left lines_left
returns-in_default-clause-text c = rw (c.end.ensures.ended, c.end.ensures.text, c.requires, nil_from_length _ c.in_default.ensures.cases, append-nil) refl

pub returns-in-Ok-None-clause-text : goal.returns-in-Ok-None-clause-text
unfolding text_left
returns-in-Ok-None-clause-text c =
    let q = c.args.self.now in
    let none = stands_none q.reader.position q.reader.bytes.now q.reader.bytes.now _ _ refl c.next_record.ensures.yields c.in-Ok-None.is c.in-Ok-None.field-0-is in
    rw (c.end-in-Ok-None.ensures.ended, c.end-in-Ok-None.ensures.text, c.requires, no_line q.reader.bytes.now q.reader.position q.seconds q.codes.now _ none (λ _. refl), append-nil) refl

pub returns-in-Err-clause-text : goal.returns-in-Err-clause-text
unfolding text_left
returns-in-Err-clause-text c =
    let q = c.args.self.now in
    let refused = stands_refused q.reader.position q.reader.bytes.now q.reader.bytes.now _ _ refl c.next_record.ensures.yields c.in-Err.is in
    rw (c.end-in-Err.ensures.ended, c.end-in-Err.ensures.text, c.requires, no_line q.reader.bytes.now q.reader.position q.seconds q.codes.now _ refused (λ _. refl), append-nil) refl
