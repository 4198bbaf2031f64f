-- What is seen of ranges that nest, nests.
use Rattle.std.proofs.Common.{◌≡◌, Bool, true, false, List, [], ◌∷◌, map, min, take, refl, arith}
use Rattle.std.specs.Prelude.{Option, None, Some, if◌then◌else◌}
use Rattle.cov_model.specs.declared.report.Range.{Range}
use Rattle.cov_model.specs.declared.report.FunctionReport.{FunctionReport}
use Rattle.cov_model.specs.declared.snapshot.Entry.{Entry}
use Rattle.cov_model.specs.Nesting.{inner_count, or_else, fault_at, fault_from, range_fault, AreReportsNested, AreNested}
use Rattle.cov_messages.specs.declared.request.Flags.{Flags}
use Rattle.cov_steps.proofs.Rooted.{first-ordered}
use Rattle.cov_model.specs.declared.report.ListForm.TheVariants.{Nested}
use Rattle.cov_normal.proofs.Forms.{it_is_well_nested}
use Rattle.cov_session.specs.View.{cut, counted, root_alone, seen, view}

first-none : {A : Type 0} (x y : Option A) → or_else x y ≡ None → or_else x None ≡ None
first-none None y e = refl
first-none (Some x) y e = e

alone-nested : (ranges : List Range) → range_fault ranges ≡ None → range_fault (take 1 ranges) ≡ None
unfolding range_fault
alone-nested [] e = e
alone-nested (root ∷ rest) e = first-none (fault_at root [] 0 root) (fault_from root (root ∷ []) rest) e

cut-nested : (ranges : List Range) → range_fault ranges ≡ None → range_fault (cut ranges) ≡ None
cut-nested [] e = e
cut-nested (root ∷ rest) e =
    it_is_well_nested Nested root.start root.end (min root.count 1) (λ o. min (inner_count (root ∷ rest) o) 1) (first-ordered (root ∷ rest) root e (omega arith))

counted_by : (b : Bool) (ranges : List Range) → range_fault ranges ≡ None → range_fault (if b then ranges else cut ranges) ≡ None
counted_by true ranges e = e
counted_by false ranges e = cut-nested ranges e

counted-nested : (flags : Flags) (ranges : List Range) → range_fault ranges ≡ None → range_fault (counted flags ranges) ≡ None
counted-nested flags ranges e = counted_by flags.call_count ranges e

seen_by : (b : Bool) (f : FunctionReport) (ranges : List Range) → range_fault ranges ≡ None
    → range_fault (if b then record { name = f.name; block = f.block; ranges = ranges } else root_alone f.name ranges).ranges ≡ None
seen_by true f ranges e = e
seen_by false f ranges e = alone-nested ranges e

seen-nested : (flags : Flags) (f : FunctionReport) → range_fault f.ranges ≡ None → range_fault (seen flags f).ranges ≡ None
seen-nested flags f e = seen_by flags.detailed f (counted flags f.ranges) (counted-nested flags f.ranges e)

reports-nested : (flags : Flags) (fs : List FunctionReport) → AreReportsNested fs → AreReportsNested (map (seen flags) fs)
reports-nested flags [] h = h
reports-nested flags (f ∷ fs) h = (seen-nested flags f h.0, reports-nested flags fs h.1)

pub view_nested : (flags : Flags) (entries : List Entry) → AreNested entries → AreNested (view flags entries)
view_nested flags [] h = h
view_nested flags (e ∷ es) h = (reports-nested flags e.functions h.0, view_nested flags es h.1)
