-- The chains of a sheet that was read: every card but the header is on exactly one. Assumes nothing.
use mathlib.Core.Bool.{Bool, true, false, not, ◌||◌}
use mathlib.Core.List.{List, ◌++◌}
use mathlib.Core.Path.{◌≡◌, sym, ◌∙◌, ap}
use Prim.Native.Nat.{ℕ, ◌<◌, ◌≤◌}
use native.Mathlib.Omega.{arith}
use lib.Dec.{eqb}
use lib.ListN.{get_or}
use borrow.Author.Tests.{ne_eqb, not-false}
use Rattle.bits.specs.Member.{member}
use Rattle.bits.proofs.Member.{member_place, member-append}
use Rattle.bits.proofs.Below.{first_none}
use Rattle.chain.proofs.Chained.{walk_chained}
use Rattle.sheet.specs.Read.{first_loose}
use Rattle.sheet.specs.Readable.{Chains}
use Rattle.sheet.proofs.Lists.{each_append, once_append}
use Rattle.sheet.proofs.Passes.{Passes}

-- where no card is loose every card but the header was reached
none_loose : (n : ℕ) (reached : ℕ → Bool) → n ≤ first_loose n reached → (c : ℕ) → 0 < c → c < n → reached c ≡ true
unfolding first_loose
none_loose n reached h c p l =
    let t : not (eqb c 0 || reached c) ≡ false = first_none n (λ x. not (eqb x 0 || reached x)) c (omega arith) in
    sym (ap (λ (b : Bool). b || reached c) (ne_eqb c 0 (omega arith))) ∙ not-false _ t

pub chains : (s : List ℕ) (n : ℕ) (people steps rules : List ℕ) → Passes s n people steps rules → Chains s n people steps rules
chains s n people steps rules p =
    let a = walk_chained _ _ _ people p.people_walk_lem in
    let b = walk_chained _ _ _ steps p.steps_walk_lem in
    let d = walk_chained _ _ _ rules p.rules_walk_lem in
    record {
      people_chain = a;
      steps_chain = b;
      rules_chain = d;
      covered = λ c l m.
          member_place (people ++ steps ++ rules) c
          (member-append (people ++ steps) rules c ∙ ap (λ (t : Bool). t || member rules c) (member-append people steps c) ∙ none_loose n _ p.no_loose c l m);
      once =
          once_append (people ++ steps) rules
          (once_append people steps a.apart b.apart b.fresh)
          d.apart
          (λ k l. member-append people steps (get_or rules k 0) ∙ d.fresh k l);
      inside = each_append (people ++ steps) rules (λ (x : ℕ). x < n) (each_append people steps (λ (x : ℕ). x < n) a.inside b.inside) d.inside;
      some = each_append (people ++ steps) rules (λ (x : ℕ). 0 < x) (each_append people steps (λ (x : ℕ). 0 < x) a.some b.some) d.some;
    }
