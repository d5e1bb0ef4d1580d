use Rattle.printing.proofs.Printed.{writes_both}
use Rattle.listing.specs.Line.{spaced, ended, head_text}
use Rattle.listing.proofs.line.put_head.Goals as goal

pub returns : goal.returns
unfolding head_text spaced ended
returns c =
    writes_both _ _ c.put_word.ensures
    (writes_both _ _ c.put_number.ensures (writes_both _ _ c.put_word-2.ensures c.put_number-2.ensures))
