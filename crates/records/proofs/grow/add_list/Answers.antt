-- Record r, which has no list yet, takes the traced one: the pool is filled up to its new end, and its place is stored, then its mark.
-- It fits: a traced list has at most four ids for each span of the region.
use Rattle.records.proofs.TraceLaws.{list_fits, list_size, list_step}
use native.Mathlib.Omega.{arith}
use Rattle.records.proofs.grow.add_list.Goals as goal

pub overflow_add-m-2 : goal.overflow_add-m-2
overflow_add-m-2 c = omega (arith, (list_fits _ _ _ _ _ _ _ c.requires.keeping.0 _ c.requires.keeping.1 c.requires.keeping.2 c.requires.r_bound c.requires.start _ _ c.trace-c.ensures.fact).1)

pub set_part-requires : goal.set_part-requires
set_part-requires c = record {
  m_in_bounds = omega (arith, list_size _ _ _ _ _ _ _ c.requires.keeping.0 _ c.requires.keeping.1 c.requires.keeping.2 c.requires.r_bound c.requires.start _ _ c.trace-c.ensures.fact);
  r_lt_m = c.requires.keeping.2;
  a_lt_wide_end = list_fits _ _ _ _ _ _ _ c.requires.keeping.0 _ c.requires.keeping.1 c.requires.keeping.2 c.requires.r_bound c.requires.start _ _ c.trace-c.ensures.fact;
}

pub add_cut-requires : goal.add_cut-requires
add_cut-requires c = (c.requires.keeping.2, omega (arith, c.set_part.auto.ws, list_size _ _ _ _ _ _ _ c.requires.keeping.0 _ c.requires.keeping.1 c.requires.keeping.2 c.requires.r_bound c.requires.start _ _ c.trace-c.ensures.fact))

pub returns : goal.returns
returns c = list_step _ _ _ _ _ _ _ c.requires.keeping.0 _ c.requires.keeping.1 c.requires.keeping.2 c.requires.r_bound c.requires.start _ _ c.trace-c.ensures.fact _ c.set_part.ensures c.set_part.auto.ws _ c.trace-c.ensures.cut_value _ c.add_cut.ensures
