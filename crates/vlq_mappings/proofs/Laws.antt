-- What the grammar and the definition of reading say of each other.
use Rattle.std.proofs.Common.{◌≡◌, ℕ, ◌<◌, List, length, arith, subst}
use Rattle.std.specs.Prelude.{Result, Ok, Err, IfOk, IfErr}
use Rattle.std.specs.List.{slice_split}
use Rattle.vlq_mappings.specs.declared.Segment.{Segment}
use Rattle.vlq_mappings.specs.declared.VlqCause.{VlqCause}
use Rattle.vlq_mappings.specs.declared.VlqFault.{VlqFault}
use Rattle.vlq_mappings.specs.declared.VlqFault.TheVariants.{At, NoMemory}
use Rattle.vlq_mappings.specs.FirstFault.{IsFirstFault}
use Rattle.vlq_mappings.proofs.Refused.{lines_refused}
use Rattle.vlq_mappings.specs.Gives.{Fails, GivesMappings}
use Rattle.vlq_mappings.specs.Kept.{AreMappings}
use Rattle.vlq_mappings.specs.Mappings.{mappings, start, is_semicolon}
use Rattle.vlq_mappings.specs.Grammar.{SpellsMappings, last_numbers}
use Rattle.vlq_mappings.proofs.Found.{AllNear}
use Rattle.vlq_mappings.proofs.Again.{lines_again}
use Rattle.vlq_mappings.proofs.FoundLines.{LinesFound, lines_found}

starts_near : AllNear (last_numbers start)
starts_near = (omega arith, (omega arith, (omega arith, (omega arith, (omega arith, tt)))))

found_in : (text : List ℕ) (lines : List (List Segment)) → mappings text ≡ Ok lines → LinesFound start (slice_split is_semicolon text) lines
unfolding mappings
found_in text lines e = lines_found 0 start (slice_split is_semicolon text) lines starts_near e

pub near_of : (text : List ℕ) (lines : List (List Segment)) → 0 < length lines → mappings text ≡ Ok lines → AreMappings lines
near_of text lines some e = record { some = some; near = (found_in text lines e).kept }

pub spelled_so : (text : List ℕ) (lines : List (List Segment)) → mappings text ≡ Ok lines → SpellsMappings text lines
spelled_so text lines e = (found_in text lines e).spells

pub read_again : (text : List ℕ) (lines : List (List Segment)) → SpellsMappings text lines → mappings text ≡ Ok lines
unfolding mappings
read_again text lines h = lines_again 0 start (slice_split is_semicolon text) lines h

-- ---- the two directions, of what a reader answered

pub found_by : (text : List ℕ) (result : Result (List (List Segment)) VlqFault) → GivesMappings result (mappings text) → IfOk result (λ lines. SpellsMappings text lines)
found_by text (Ok lines) h = spelled_so text lines h
found_by text (Err e) h = tt

gives_known : (result given : Result (List (List Segment)) VlqFault) (lines : List (List Segment)) → given ≡ Ok lines → GivesMappings result given → GivesMappings result (Ok lines)
gives_known result given lines e h = subst (GivesMappings result) e h

pub only_by : (text : List ℕ) (result : Result (List (List Segment)) VlqFault) → GivesMappings result (mappings text)
    → (lines : List (List Segment)) → SpellsMappings text lines → GivesMappings result (Ok lines)
only_by text result h lines spells = gives_known result (mappings text) lines (read_again text lines spells) h

-- ---- the first fault

refused_at : (text : List ℕ) (at : ℕ) (cause : VlqCause) → mappings text ≡ Err (At at cause) → IsFirstFault text (At at cause)
unfolding mappings
refused_at text at cause e = lines_refused 0 start (slice_split is_semicolon text) cause at starts_near e

of_refusal : (text : List ℕ) (e : VlqFault) → Fails e (mappings text) → IsFirstFault text e
of_refusal text (At at cause) h = refused_at text at cause h
of_refusal text NoMemory h = tt

pub first_by : (text : List ℕ) (result : Result (List (List Segment)) VlqFault) → GivesMappings result (mappings text) → IfErr result (λ e. IsFirstFault text e)
first_by text (Ok lines) h = tt
first_by text (Err e) h = of_refusal text e h
