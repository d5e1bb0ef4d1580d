use Rattle.printing.proofs.Printed.{writes_both}
use Rattle.listing.specs.Line.{ended, refused_text}
use Rattle.listing.proofs.line.put_refused.Goals as goal

pub returns : goal.returns
unfolding refused_text ended
returns c = writes_both _ _ c.put_word.ensures c.put_number.ensures
