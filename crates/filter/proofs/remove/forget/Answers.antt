-- `filter::remove::forget` meets its contract. The part of the found ones is lent to `clear`; the rest of the two columns was zero before.
use Rattle.filter.proofs.RemoveLaws.{forget_recs, forget_calm, forget_frame}
use Rattle.filter.proofs.remove.forget.Goals as goal

pub returns : goal.returns
returns c = record {
  m_unchanged = search forget_recs;
  calm = (search forget_calm, search forget_frame);
}
