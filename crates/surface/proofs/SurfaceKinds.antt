-- Which kinds are surfaces, by the tests of a match. Assumes nothing.
use mathlib.Core.Path.{◌≡◌, refl}
use Prim.Native.Nat.{ℕ}
use native.Mathlib.Omega.{arith}
use borrow.Author.Tests.{ne_eqb}
use Rattle.std.specs.Prelude.{Result, Ok, Err, Some, None}
use Rattle.fields.specs.Kinds.{NamesKind}
use Rattle.fields.specs.declared.Kind.{Kind}
use Rattle.fields.specs.declared.Kind.TheVariants.{Point, LineString, Polygon, MultiPoint, MultiLineString, MultiPolygon, GeometryCollection, PolyhedralSurface, Tin, Triangle}
use Rattle.fields.specs.declared.UnknownKind.{UnknownKind}
use Rattle.surface.specs.Patches.{kind_by_number}
use Rattle.surface.specs.declared.Surface.TheVariants as surface

pub is_collection : (k at : ℕ) → 15 ≡ k → Some (surface.Collection at) ≡ kind_by_number k at
unfolding kind_by_number
is_collection k at e = rw (← e)

pub is_tin : (k at : ℕ) → 16 ≡ k → Some (surface.Collection at) ≡ kind_by_number k at
unfolding kind_by_number
is_tin k at e = rw (← e)

pub is_triangle : (k at : ℕ) → 17 ≡ k → Some (surface.Triangle at) ≡ kind_by_number k at
unfolding kind_by_number
is_triangle k at e = rw (← e)

other : (k at : ℕ) → (k ≡ 15 → ⊥) → (k ≡ 16 → ⊥) → (k ≡ 17 → ⊥) → None ≡ kind_by_number k at
unfolding kind_by_number
other k at a b c = simp (ne_eqb k 15 a, ne_eqb k 16 b, ne_eqb k 17 c)

-- no other kind is a surface, and no number of none
pub is_none : (k at : ℕ) (r : Result Kind UnknownKind) → NamesKind k r → (r ≡ Ok PolyhedralSurface → ⊥) → (r ≡ Ok Tin → ⊥) → (r ≡ Ok Triangle → ⊥) → None ≡ kind_by_number k at
is_none k at (Ok Point) n a b c = other k at (λ e. omega arith) (λ e. omega arith) (λ e. omega arith)
is_none k at (Ok LineString) n a b c = other k at (λ e. omega arith) (λ e. omega arith) (λ e. omega arith)
is_none k at (Ok Polygon) n a b c = other k at (λ e. omega arith) (λ e. omega arith) (λ e. omega arith)
is_none k at (Ok MultiPoint) n a b c = other k at (λ e. omega arith) (λ e. omega arith) (λ e. omega arith)
is_none k at (Ok MultiLineString) n a b c = other k at (λ e. omega arith) (λ e. omega arith) (λ e. omega arith)
is_none k at (Ok MultiPolygon) n a b c = other k at (λ e. omega arith) (λ e. omega arith) (λ e. omega arith)
is_none k at (Ok GeometryCollection) n a b c = other k at (λ e. omega arith) (λ e. omega arith) (λ e. omega arith)
is_none k at (Ok PolyhedralSurface) n a b c = absurd (a refl)
is_none k at (Ok Tin) n a b c = absurd (b refl)
is_none k at (Ok Triangle) n a b c = absurd (c refl)
is_none k at (Err e) n a b c = other k at (λ e. omega arith) (λ e. omega arith) (λ e. omega arith)
