-- `text_pieces::put_decimal` meets its contract. Assumes nothing.
use Rattle.std.proofs.Common.{◌≡◌, ℕ, List, ◌++◌, ◌∙◌, ap, length, arith}
use Rattle.text_pieces.specs.TextPieces.{decimal_text}
use Rattle.text_pieces.proofs.Decimal.{decimal_is}
use Rattle.text_pieces.proofs.put_decimal.Goals as goal

-- what std writes are the number's digits
digits : (g : _) (c : goal.After-buffer-2-1 g) → c.as_bytes.result.now ≡ decimal_text c.args.n
digits g c = c.as_bytes.ensures.value ∙ c.format.ensures.text ∙ decimal_is c.args.n c.ranges.n.fits

pub returns-clause-fits : goal.returns-clause-fits
returns-clause-fits g c = λ room.
    let d = digits g c in
    c.put.ensures.items (omega (arith, ap length d)) ∙ ap (λ (s : List ℕ). c.args.text.now.items ++ s) d

pub returns-clause-kept : goal.returns-clause-kept
returns-clause-kept g c = λ over. let d = digits g c in c.put.ensures.kept (omega (arith, ap length d))

pub returns-clause-items : goal.returns-clause-items
returns-clause-items g c = λ room.
    let short = ap length c.as_bytes.ensures.value in
    c.put.ensures.items (omega (arith, c.format.ensures.fits)) ∙ ap (λ (s : List ℕ). c.args.text.now.items ++ s) (digits g c)
