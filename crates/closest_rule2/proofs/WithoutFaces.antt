-- A side without a face has no triangle, so that rule 2's sweep is rule 1's. Assumes nothing.
use mathlib.Core.Path.{◌≡◌, refl, sym, ap, ◌∙◌}
use mathlib.Core.Bool.{Bool, true, false, ◌||◌, false≢true}
use mathlib.Core.List.{List, [], ◌∷◌}
use Prim.Native.Nat.{ℕ, ◌-◌, ◌<◌, ◌≤◌}
use native.Mathlib.Omega.{arith}
use lib.ListN.{length, take, drop, get_or}
use lib.Seq.{take_all}
use lib.Ieee.{Float}
use Rattle.parts.specs.Stored.{stored_runs}
use Rattle.coords.specs.Parts.{Run, run, is_face}
use Rattle.primitives.specs.declared.Point.{Point}
use Rattle.extremes.proofs.Lists.{Each}
use Rattle.items.specs.Items.{triangle_items, items_of_kind, items_of}
use Rattle.items.specs.Closest.{closest_of}
use Rattle.items.proofs.WithoutTriangles.{NoTriangle, no_triangle}
use Rattle.crossings.specs.Closest.{closest_by_rule2}
use Rattle.crossings.proofs.WithoutTriangles.{rule_2_without_triangles}
use Rattle.closest_rule2.specs.Inner.{has_face, table_has_face}

neither : (a b : Bool) → (a || b) ≡ false → (a ≡ false) × (b ≡ false)
neither true b e = absurd (false≢true (sym e))
neither false b e = (refl, e)

-- a run more
pub face_next : (kind : ℕ) (ps : List Point) (left : List (Run Point)) → has_face (run kind ps ∷ left) ≡ (is_face kind || has_face left)
unfolding has_face
face_next kind ps left = refl

pub face_end : has_face [] ≡ false
unfolding has_face
face_end = refl

-- the same of a table: kind and count of the first run, and those of the others
pub table_next : (table : List ℕ) → 2 ≤ length table → table_has_face table ≡ (is_face (get_or table 0 0) || table_has_face (take (length table - 2) (drop 2 table)))
unfolding table_has_face
table_next [] h = absurd (omega arith)
table_next (kind ∷ []) h = absurd (omega arith)
table_next (kind ∷ count ∷ table) h = rw (take_all (length (kind ∷ count ∷ table) - 2) table (omega arith))

-- fewer than two numbers are no run
pub table_end : (table : List ℕ) → length table < 2 → table_has_face table ≡ false
unfolding table_has_face
table_end [] h = refl
table_end (kind ∷ []) h = refl
table_end (kind ∷ count ∷ table) h = absurd (omega arith)

pub ruleset table_turns = (table_next, table_end)

-- what a table and floats hold has a face if the table has one
pub stored_face : (table : List ℕ) (floats : List Float) → has_face (stored_runs table floats) ≡ table_has_face table
unfolding table_has_face stored_runs
stored_face [] floats = face_end
stored_face (kind ∷ []) floats = face_end
stored_face (kind ∷ count ∷ table) floats = face_next kind _ _ ∙ ap (λ (rest : Bool). is_face kind || rest) (stored_face table _)

no_triangles : (rs : List (Run Point)) → has_face rs ≡ false → items_of_kind is_face triangle_items rs ≡ []
unfolding has_face items_of_kind
no_triangles [] e = refl
no_triangles (run kind ps ∷ rs) e =
    let h = neither (is_face kind) (has_face rs) e in
    rw h.0 (no_triangles rs h.1)

pub faceless_items : (rs : List (Run Point)) → has_face rs ≡ false → Each NoTriangle (items_of rs)
faceless_items rs e = no_triangle rs (no_triangles rs e)

-- two sides without a face
pub faceless_same : (ls rs : List (Run Point)) → (has_face ls || has_face rs) ≡ false → closest_by_rule2 (items_of ls) (items_of rs) ≡ closest_of (items_of ls) (items_of rs)
faceless_same ls rs e =
    let h = neither (has_face ls) (has_face rs) e in
    rule_2_without_triangles _ _ (faceless_items ls h.0) (faceless_items rs h.1)
