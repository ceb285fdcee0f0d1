-- What an item leaves settled to the next of its run, and that the next has it. Assumes nothing.
use Rattle.std.specs.declared.option.Option.{Option}
use Rattle.primitives.specs.declared.Witness.{Witness}
use Rattle.extremes.proofs.Lists.{Each}
use Rattle.extremes.proofs.Taking.{BestFits}
use Rattle.measures.specs.InnerOffers.{offered_all, AllSettled}
use Rattle.measures.proofs.NotBelowZero.{Distant, point_triangle_lem}
use Rattle.measures.proofs.Settled.{offered_settled}
use Rattle.measures.proofs.TwoTriangles.{settled_first, settled_second, shared_first_distant}
use Rattle.items.specs.declared.Item.{Item}
use Rattle.items.specs.declared.Item.TheVariants.{Point as point, Segment as segment, Triangle as triangle}
use Rattle.items.specs.Candidates.{candidates_of}
use Rattle.items.specs.InnerRepeats.{first_after, first_before, second_after}
use Rattle.items.proofs.NotBelowZero.{candidates_not_below}

-- ---- what was measured is settled

pub measured_first : (best : Option Witness) (o i : Item) → BestFits best → AllSettled (offered_all best (candidates_of o i)) (first_after o i)
unfolding AllSettled first_after
measured_first best (point p) i g = tt
measured_first best (segment s e) (point q) g = tt
measured_first best (segment s e) (segment u v) g = tt
measured_first best (segment s e) (triangle t) g = unfold candidates_of in ((offered_settled best (candidates_of (segment s e) (triangle t)) g (candidates_not_below (segment s e) (triangle t))).1.0, tt)
measured_first best (triangle t) (point q) g = tt
measured_first best (triangle t) (segment s e) g = tt
measured_first best (triangle t) (triangle u) g = unfold candidates_of in settled_first t u best g

pub measured_second : (best : Option Witness) (o i : Item) → BestFits best → AllSettled (offered_all best (candidates_of o i)) (second_after o i)
unfolding AllSettled second_after
measured_second best (point p) i g = tt
measured_second best (segment s e) i g = tt
measured_second best (triangle t) (point q) g = tt
measured_second best (triangle t) (segment s e) g = unfold candidates_of in ((offered_settled best (candidates_of (triangle t) (segment s e)) g (candidates_not_below (triangle t) (segment s e))).1.0, tt)
measured_second best (triangle t) (triangle u) g = unfold candidates_of in settled_second t u best g

-- ---- none is below 0
pub first_distant : (o i : Item) → Each Distant (first_before o i)
unfolding first_before
first_distant (point p) i = tt
first_distant (segment s e) (point q) = tt
first_distant (segment s e) (segment u v) = tt
first_distant (segment s e) (triangle t) = (point_triangle_lem s t, tt)
first_distant (triangle t) (point q) = tt
first_distant (triangle t) (segment s e) = tt
first_distant (triangle t) (triangle u) = shared_first_distant t.a t.b u
