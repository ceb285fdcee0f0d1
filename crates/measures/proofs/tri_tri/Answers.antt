-- `measures::tri_tri` meets its contract. Assumes nothing.
use lib.Ieee.{of_bits}
use Rattle.ieee754.specs.Root.{root_of}
use Rattle.primitives.specs.Unrooted.{rooted_of}
use Rattle.measures.specs.Measures.{infinitely_far}
use Rattle.measures.proofs.SparedTriangles.{first_spared, second_spared, middle_spared, other_spared, spared_start, spared_first, spared_second, spared_third, spared_fourth}
use Rattle.measures.proofs.TwoTriangles.{triangles_offered}
use Rattle.measures.proofs.tri_tri.Goals as goal

pub seg_edges-requires : goal.seg_edges-requires
unfolding of_bits root_of infinitely_far rooted_of
seg_edges-requires c e = rw c.offer.ensures.value (other_spared (spared_start _ _ _ c.requires c.offer.ensures.fits) (c.closes_ring-u_closes.ensures e)).0

pub middle_edge-requires-clause-t_closes : goal.middle_edge-requires-clause-t_closes
unfolding of_bits root_of infinitely_far rooted_of
middle_edge-requires-clause-t_closes c e = rw (c.seg_edges.ensures, c.offer.ensures.value) (middle_spared (spared_first _ _ _ c.requires c.offer.ensures.fits) (c.closes_ring-t_closes.ensures e))

pub middle_edge-requires-clause-u_closes : goal.middle_edge-requires-clause-u_closes
unfolding of_bits root_of infinitely_far rooted_of
middle_edge-requires-clause-u_closes c e = rw (c.seg_edges.ensures, c.offer.ensures.value) (other_spared (spared_first _ _ _ c.requires c.offer.ensures.fits) (c.closes_ring-u_closes.ensures e)).1

pub seg_edges-requires-2 : goal.seg_edges-requires-2
unfolding of_bits root_of infinitely_far rooted_of
seg_edges-requires-2 c e = rw (c.middle_edge.ensures, c.seg_edges.ensures, c.offer.ensures.value) (other_spared (spared_second _ _ _ c.requires c.offer.ensures.fits) (c.closes_ring-u_closes.ensures e)).2

pub vertices-requires : goal.vertices-requires
unfolding of_bits root_of infinitely_far rooted_of
vertices-requires c e = rw (c.seg_edges-2.ensures, c.middle_edge.ensures, c.seg_edges.ensures, c.offer.ensures.value) (first_spared (spared_third _ _ _ c.requires c.offer.ensures.fits) e)

pub vertices-requires-2 : goal.vertices-requires-2
unfolding of_bits root_of infinitely_far rooted_of
vertices-requires-2 c e = rw (c.vertices.ensures, c.seg_edges-2.ensures, c.middle_edge.ensures, c.seg_edges.ensures, c.offer.ensures.value) (second_spared (spared_fourth _ _ _ c.requires c.offer.ensures.fits) e)

pub returns : goal.returns
unfolding of_bits root_of infinitely_far rooted_of
returns c = rw (
  triangles_offered c.args.t c.args.u c.args.best.now c.offer.ensures.fits,
  c.vertices-2.ensures,
  c.vertices.ensures,
  c.seg_edges-2.ensures,
  c.middle_edge.ensures,
  c.seg_edges.ensures,
  c.offer.ensures.value,
)
