-- The lines of the rules: kind, level and limit stand on the card, and the figure is that of the kind and what the kind asks for. Assumes nothing.
use mathlib.Core.Bool.{Bool}
use mathlib.Core.List.{List, [], ◌∷◌, ◌++◌}
use mathlib.Core.Path.{◌≡◌, refl, sym, subst, ap, ap₂, ◌∙◌}
use Prim.Native.Nat.{ℕ, zero, suc, ◌<◌}
use native.Mathlib.Omega.{arith}
use lib.ListN.{length, get_or}
use Rattle.card.specs.Fields.{rule_kind_of}
use Rattle.remaining.proofs.Laws.{kind_left, level_left, limit_left}
use Rattle.remaining.specs.Remaining.{kept_at, steps_left, job_left}
use Rattle.workflow.specs.Problem.{Kind, same, different, at_most, at_least, maxLoad, Plan, class_count, class_load, figure_of, looked_at}
use Rattle.workflow.specs.First.{plan_of, list_of}
use Rattle.workflow.specs.Leaves.{plan_left}
use Rattle.workflow.specs.Numbered.{kind_in}
use Rattle.workflow.specs.Skipped.{scope_left, size_left, figure_left, AsksLeft}
use Rattle.workflow.proofs.Counts.{distinct_cong}
use Rattle.workflow.proofs.Leaves.{figure_left_lem}
use Rattle.workflow.proofs.Lists.{plan_of-list_of}
use Rattle.workflow.proofs.Different.{distinct_different}
use Rattle.workflow.proofs.Loads.{largest_load_is, load_cong}
use Rattle.sheet.specs.Read.{job, read_sheet}
use Rattle.instance.specs.Figures.{FiguresOf, kind_at}
use Rattle.instance.specs.Instance.{instance_in}
use Rattle.instance.specs.Marked.{rule_on, marked_in}
use Rattle.instance.proofs.Marked.{instance_leaves}
use Rattle.fulmarinvar.specs.RuleCounts.{RuleLine, FigureOfKind, GivesLeft, LinesOfRules, LinesAsked, lines_below, lines_found, lines_read, LinesPrinted}
use Rattle.fulmarinvar.proofs.SheetDemand.{steps_remain}

-- the figure of a kind is what it says
figure_says : (k : Kind) (n : ℕ) (scope : ℕ → Bool) (c : ℕ → ℕ) → FigureOfKind k n scope c (figure_of k n scope c)
figure_says same n scope c = distinct_different n scope c
figure_says different n scope c = distinct_different n scope c
figure_says at_most n scope c = distinct_different n scope c
figure_says at_least n scope c = distinct_different n scope c
figure_says maxLoad n scope c = largest_load_is n scope c

-- a figure of the instance is that over the steps left
figure_is : (s people steps rules : List ℕ) → read_sheet s ≡ job people steps rules → (π : Plan) (figures : List ℕ) → GivesLeft s people steps π
    → FiguresOf (kind_at (job_left s people steps rules)) (instance_in s people steps rules) (plan_left (kept_at s steps) π) (length rules) figures
    → (i : ℕ) → i < length rules → get_or figures i 0 ≡ figure_left (marked_in s people steps rules) (rule_on s (get_or rules i 0)) π
figure_is s people steps rules e π figures within w i l =
    let remain = steps_remain s steps in
    let j = instance_in s people steps rules in
    let σ = plan_left (kept_at s steps) π in
    w.each i l
    ∙ ap (λ (x : ℕ). looked_at (kind_in x) (class_count j (j.rule i) σ) (class_load j (j.rule i) σ)) (kind_left s people steps rules i l)
    ∙ figure_left_lem (instance_leaves s people steps rules e) i l π (λ k b. within (kept_at s steps k) (remain.on_chain k b) (remain.remains k b))

pub lines_of_rules : LinesOfRules
lines_of_rules s people steps rules e π figures within w i l =
    let m = marked_in s people steps rules in
    let r = rule_on s (get_or rules i 0) in
    record {
      kind = kind_left s people steps rules i l;
      level = level_left s people steps rules i l;
      limit = limit_left s people steps rules i l;
      figure = subst (FigureOfKind r.kind (length steps) (scope_left m r) (λ t. m.class r.level (π t)))
          (sym (figure_is s people steps rules e π figures within w i l)) (figure_says r.kind (length steps) (scope_left m r) (λ t. m.class r.level (π t)));
    }

pub lines_asked : LinesAsked
lines_asked s people steps rules e π figures w v i l =
    let m = marked_in s people steps rules in
    let r = rule_on s (get_or rules i 0) in
    subst (λ (x : ℕ). AsksLeft (kind_in x) (get_or (job_left s people steps rules).rule_limit i 0) (size_left m r) (get_or figures i 0)) (sym (kind_left s people steps rules i l))
    (subst (λ (x : ℕ). AsksLeft r.kind x (size_left m r) (get_or figures i 0)) (sym (limit_left s people steps rules i l))
    (subst (AsksLeft r.kind r.limit (size_left m r)) (sym (figure_is s people steps rules e π figures v.within w i l)) (v.eligible i l)))

same_line : {k k' l l' m m' n n' : ℕ} → k ≡ k' → l ≡ l' → m ≡ m' → n ≡ n'
    → ◌≡◌ {A = RuleLine} (record { kind = k; level = l; limit = m; figure = n }) (record { kind = k'; level = l'; limit = m'; figure = n' })
same_line a b c d = rw (a, b, c, d) refl

-- lines that are the same one by one
lines_cong : (n : ℕ) (f g : ℕ → RuleLine) → ((i : ℕ) → i < n → f i ≡ g i) → lines_below n f ≡ lines_below n g
unfolding lines_below
lines_cong zero f g h = refl
lines_cong (suc n) f g h =
    ap₂ (λ (xs : List RuleLine) (x : RuleLine). xs ++ (x ∷ [])) (lines_cong n f g (λ i l. h i (omega arith))) (h n (omega arith))

pub lines_printed : LinesPrinted
unfolding lines_read lines_found
lines_printed s people steps rules e π figures first w =
    let j = instance_in s people steps rules in
    let n = length (steps_left s steps) in
    ap (lines_read s) e ∙ ap (lines_found s people steps rules) first
    ∙ lines_cong (length rules) _ _
    (λ i l. same_line (sym (kind_left s people steps rules i l)) (sym (level_left s people steps rules i l)) (sym (limit_left s people steps rules i l))
    (ap₂ (looked_at (kind_in (rule_kind_of s (get_or rules i 0))))
    (distinct_cong n (j.rule i).scope (λ t. j.class (j.rule i).level (plan_of (list_of n π) t)) (λ t. j.class (j.rule i).level (π t))
    (λ t b h. ap (j.class (j.rule i).level) (plan_of-list_of n π t b)))
    (load_cong n (j.rule i).scope (λ t. j.class (j.rule i).level (plan_of (list_of n π) t)) (λ t. j.class (j.rule i).level (π t))
    (λ t b h. ap (j.class (j.rule i).level) (plan_of-list_of n π t b)))
    ∙ sym (w.each i l ∙ ap (λ (x : ℕ). looked_at (kind_in x) (class_count j (j.rule i) π) (class_load j (j.rule i) π)) (kind_left s people steps rules i l))))
