-- The laws of pairs, of boxes over points, of folds that skip, and of the best so far.
pub mod Lists
pub mod Skipping
pub mod PairLists
pub mod Senses
pub mod Distances
pub mod FirstExtreme
pub mod BoxOfAll
pub mod EitherWay
pub mod BoxSkips
pub mod Taking
pub mod KeptWitness
pub mod Offered
pub mod NanBest
pub mod Repeats
pub mod ClosestPoints
pub mod PointsOnly
