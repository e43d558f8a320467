-- The tags that a call writes are read back at their places, and determine the group. Assumes nothing.
use mathlib.Core.List.{List, ◌++◌}
use mathlib.Core.Path.{◌≡◌, refl, sym, ◌∙◌, ap, subst}
use Prim.Native.Nat.{ℕ, ◌+◌, ◌*◌, ◌<◌}
use native.Mathlib.Omega.{arith}
use lib.ListN.{length, get_or, drop}
use Rattle.bits.specs.Word.{byte_at, long_at}
use Rattle.card.specs.Fields.{tag_of}
use Rattle.sheet.specs.Faults.{cards_in}
use Rattle.sheet.proofs.Passes.{sheet_passes}
use Rattle.sheet.proofs.Readable.{readable_job, sheet_levels}
use Rattle.remaining.proofs.Laws.{steps_left-length, steps_left_at, step_tag_left, person_tag_left}
use Rattle.remaining.specs.Remaining.{job_over, kept_at, steps_left, job_left}
use Rattle.workflow.specs.First.{list_of}
use Rattle.workflow.specs.Leaves.{plan_left}
use Rattle.workflow.proofs.Lists.{plan_of-list_of}
use Rattle.instance.specs.Instance.{crew_tags}
use Rattle.answer.specs.Bytes.{written}
use Rattle.resiliency.specs.Away.{Group}
use Rattle.resiliency.specs.Spare.{away_tags}
use Rattle.fulmarinvar.specs.Demands as demands
use Rattle.fulmarinvar.proofs.SheetDemand.{steps_remain}
use Rattle.fulmarinvar.proofs.Tags.{long_small, written_same, away_small, away_same, read_written, shifted, crew_tags_lem, away_at}

-- a person's tag, and a step's, in the arrays of the job; they fit into four bytes
module _ (s people steps rules : List ℕ) (bytes : (i : ℕ) → byte_at s i < 256) where
  step_tag_at : (k : ℕ) → k < length (steps_left s steps) → get_or (job_left s people steps rules).step_tag k 0 ≡ tag_of s (get_or steps (kept_at s steps k) 0)
  step_tag_at k l =
      step_tag_left s people steps rules k l ∙ ap (tag_of s) (steps_left_at s steps k (omega (arith, steps_left-length s steps)))

  tag_small : (c : ℕ) → tag_of s c < 4294967296
  tag_small c = long_small s bytes (16 * c + 4)

  person_small : (p : ℕ) → p < length people → get_or (job_left s people steps rules).person_tag p 0 < 4294967296
  person_small p l = subst (λ (x : ℕ). x < 4294967296) (sym (person_tag_left s people steps rules p l)) (tag_small (get_or people p 0))

-- the number at place k of a list that is written, where it is known
read_at : (xs rest : List ℕ) (k x i : ℕ) → k < length xs → get_or xs k 0 ≡ x → x < 4294967296 → i ≡ 4 * k → long_at (written xs ++ rest) i ≡ x
read_at xs rest k x i l e m d =
    ap (long_at (written xs ++ rest)) d ∙ read_written xs rest k l (subst (λ (y : ℕ). y < 4294967296) (sym e) m) ∙ e

pub crew_reads : demands.CrewReads
crew_reads s buffer people steps rules e bytes π within k l =
    let n = length (steps_left s steps) in
    let st = (job_left s people steps rules).step_tag in
    let pt = (job_left s people steps rules).person_tag in
    let t = kept_at s steps k in
    let plan = list_of n (plan_left (kept_at s steps) π) in
    let rest = drop (8 * n) buffer in
    let w = crew_tags_lem st pt plan n k l in
    let xs = crew_tags st pt plan n in
    let remain = steps_remain s steps in
    let p : get_or plan k 0 ≡ π t = plan_of-list_of n (plan_left (kept_at s steps) π) k l in
    let person : get_or pt (get_or plan k 0) 0 ≡ tag_of s (get_or people (π t) 0)
    = ap (λ (x : ℕ). get_or pt x 0) p ∙ person_tag_left s people steps rules (π t) (within t (remain.on_chain k l) (remain.remains k l)) in (
      read_at xs rest (2 * k) (tag_of s (get_or steps t 0)) (8 * k) (omega (arith, w.0)) (w.1.0 ∙ step_tag_at s people steps rules bytes k l)
          (tag_small s people steps rules bytes (get_or steps t 0)) (omega arith),
      read_at xs rest (2 * k + 1) (tag_of s (get_or people (π t) 0)) (8 * k + 4) w.0 (w.1.1 ∙ person)
          (tag_small s people steps rules bytes (get_or people (π t) 0)) (omega arith),
    )

pub spare_reads : demands.SpareReads
spare_reads s buffer people steps rules e bytes t k away g i l =
    let tags = (job_left s people steps rules).person_tag in
    let rest = drop 16 buffer in
    let xs = away_tags tags 3 away in
    let w = away_at tags (length people) 3 away i l in
    let size = g.size in (
      λ m.
          let x = tag_of s (get_or people (get_or away i 0) 0) in
          let at : get_or xs i 0 ≡ x = w.1 (omega arith) ∙ person_tag_left s people steps rules (get_or away i 0) (g.within i m) in
          shifted t 0 0 0 (written xs ++ rest) (4 * i)
          ∙ read_at xs rest i x (4 * i) w.0 at (tag_small s people steps rules bytes (get_or people (get_or away i 0) 0)) refl,
      λ m. shifted t 0 0 0 (written xs ++ rest) (4 * i) ∙ read_at xs rest i 0 (4 * i) w.0 (w.2 (omega arith)) (omega arith) refl,
    )

pub tags_determine : demands.TagsDetermine
unfolding job_over
tags_determine s people steps rules e bytes k m xs ys a b g h same =
    let r = readable_job s people steps rules (cards_in s) (sheet_passes s people steps rules e).rest (sheet_levels s people steps rules e) in
    let tags = (job_left s people steps rules).person_tag in
    let small = person_small s people steps rules bytes in
    let xs-in = group_within g in
    let ys-in = group_within h in
    away_same tags (length people) (λ p l. (r.person p l).tag) r.person_tags 3 xs ys (omega (arith, g.size)) (omega (arith, h.size)) xs-in ys-in
    (written_same (away_tags tags 3 xs) (away_tags tags 3 ys) (away_small tags (length people) small 3 xs xs-in) (away_small tags (length people) small 3 ys ys-in) same)
  where
    group_within : {n j : ℕ} {zs : List ℕ} → Group n j zs → (i : ℕ) → i < length zs → get_or zs i 0 < n
    group_within w i l = w.within i (omega (arith, w.size))
