-- Group g takes class c from its holder h, who is to get another: what holds then, when h has got one, and when h is stuck.
-- Assumes nothing.
use mathlib.Core.Bool.{true, false}
use mathlib.Core.Path.{◌≡◌, sym, ap, ◌∙◌, subst}
use mathlib.Core.List.{List}
use Prim.Native.Nat.{ℕ, ◌<◌, ◌^◌}
use native.Mathlib.Omega.{arith}
use lib.ListN.{set, length-set}
use lib.Seq.{set-set, set_comm, set-get_or}
use Rattle.bits.specs.Word.{has_bit}
use Rattle.bits.specs.Set.{Removed}
use Rattle.bits.proofs.Below.{by_cases}
use Rattle.bits.proofs.SetLaws.{has_below, removed_other, removed_was}
use Rattle.matching.specs.Assignment.{suits, class_at}
use Rattle.matching.specs.State.{Placed, Held, Unserved, Blocked, AllBlocked, Grown}
use Rattle.matching.proofs.Laws.{equal_or_not, class_same, class_other, given, dropped, lacks_part}

-- g is to be given a class, and h has c
pub record Displacing (edges at : List ℕ) (free g h c : ℕ) : Type 0 where
  pub ready : Unserved edges at free g
  pub small : c < 64
  pub below : h < 12
  pub has : class_at at h ≡ c

abbrev pub displaced : List ℕ → ℕ → ℕ → ℕ → List ℕ
displaced at g h c = set (set at g c) h 64

module _ {edges at : List ℕ} {free g h c : ℕ} (it : Displacing edges at free g h c) where
  placed : Placed at h
  placed = omega arith

  differ : g ≡ h → ⊥
  differ e = let q : class_at at g ≡ class_at at h = ap (class_at at) e in let i : class_at at g ≡ 64 = it.ready.idle in omega arith

  displaced_mine : class_at (displaced at g h c) g ≡ c
  displaced_mine = class_other (set at g c) h 64 g differ ∙ class_same at g c it.ready.held.sized it.ready.below

  displaced_theirs : class_at (displaced at g h c) h ≡ 64
  displaced_theirs = class_same (set at g c) h 64 (length-set at g c ∙ it.ready.held.sized) it.below

  displaced_other : (k : ℕ) → (k ≡ g → ⊥) → (k ≡ h → ⊥) → class_at (displaced at g h c) k ≡ class_at at k
  displaced_other k m n = class_other (set at g c) h 64 k n ∙ class_other at g c k m

  pub displaced_ready : suits edges g c ≡ true → Unserved edges (displaced at g h c) free h
  displaced_ready suit = record {
    held = subst (λ (x : List ℕ). Held edges x free) (sym (set_comm at g h c 64 differ))
        (given it.ready.below it.small
        (dropped it.below it.ready.held) suit (λ k n e. nobody k e) gone);
    below = it.below;
    idle = displaced_theirs;
  }
    where
      gone : has_bit free c ≡ false
      gone = subst (λ (x : ℕ). has_bit free x ≡ false) it.has (it.ready.held.taken h placed)

      nobody : (k : ℕ) → class_at (set at h 64) k ≡ c → ⊥
      nobody k e = equal_or_not k h
          (λ u. let q : class_at (set at h 64) h ≡ 64 = class_same at h 64 it.ready.held.sized it.below in
          let z : class_at (set at h 64) k ≡ class_at (set at h 64) h = ap (class_at (set at h 64)) u in omega arith)
          (λ n. n (it.ready.held.apart k h (let q : class_at (set at h 64) k ≡ class_at at k = class_other at h 64 k n in omega arith)
          (sym (class_other at h 64 k n) ∙ e ∙ sym it.has)))

  -- h has got another class
  pub displaced_grown : {at' : List ℕ} {free' : ℕ} → Grown edges (displaced at g h c) at' free' h → Grown edges at at' free' g
  displaced_grown {at'} {free'} w = record {
    held = w.held;
    placed = w.kept g (let q : class_at (displaced at g h c) g ≡ c = displaced_mine in omega arith);
    kept = λ k p. equal_or_not k h
        (λ e. subst (λ (x : ℕ). Placed at' x) (sym e) w.placed)
        (λ n. w.kept k (let q : class_at (displaced at g h c) k ≡ class_at at k = displaced_other k (idle k p) n in omega arith));
    only = λ k p m. equal_or_not k h
        (λ e. subst (λ (x : ℕ). Placed at x) (sym e) (omega arith))
        (λ n. let v : Placed (displaced at g h c) k = w.only k p n in
        let q : class_at (displaced at g h c) k ≡ class_at at k = displaced_other k m n in omega arith);
  }
    where
      idle : (k : ℕ) → Placed at k → k ≡ g → ⊥
      idle k p e = let q : class_at at k ≡ class_at at g = ap (class_at at) e in let i : class_at at g ≡ 64 = it.ready.idle in omega arith

  -- put back, the list is as it was
  pub restored : {at' : List ℕ} → at' ≡ displaced at g h c → set (set at' h c) g 64 ≡ at
  restored {at'} e =
      ap (λ (x : List ℕ). set (set x h c) g 64) e
      ∙ ap (λ (x : List ℕ). set x g 64) (set-set (set at g c) h 64 c ∙ set_comm at g h c c differ)
      ∙ set-set (set at h c) g c 64
      ∙ ap (λ (x : List ℕ). set x g 64) (ap (set at h) (sym it.has) ∙ set-get_or at h 64)
      ∙ ap (set at g) (sym it.ready.idle) ∙ set-get_or at g 64

  -- h is stuck: its class is blocked too
  pub blocked_more : {was now now' now'' : ℕ} → now < 2 ^ 64 → AllBlocked edges at was now → has_bit now c ≡ true → Removed now c now'
      → AllBlocked edges (displaced at g h c) now' now'' → ((d : ℕ) → suits edges h d ≡ true → has_bit now'' d ≡ false) → AllBlocked edges at was now''
  blocked_more {was} {now} {now'} {now''} fits t in-now gone s own = record {
    shrunk = λ d p. t.shrunk d (part d p);
    blocked = λ d p q. by_cases (has_bit now d) (λ u. newly d u q) (λ u. before d (t.blocked d p u));
  }
    where
      part : (d : ℕ) → has_bit now'' d ≡ true → has_bit now d ≡ true
      part d p = removed_was gone d (s.shrunk d p)

      before : (d : ℕ) → Blocked edges at now d → Blocked edges at now'' d
      before d k = record { who = k.who; has = k.has; all = λ e p. lacks_part now'' now e part (k.all e p) }

      still : (d : ℕ) → d < 64 → (d ≡ c → ⊥) → Blocked edges (displaced at g h c) now'' d → Blocked edges at now'' d
      still d m n k = record {
        who = k.who;
        has = sym (displaced_other k.who
            (λ e. n (sym k.has ∙ ap (class_at (displaced at g h c)) e ∙ displaced_mine))
            (λ e. let z : class_at (displaced at g h c) k.who ≡ 64 = ap (class_at (displaced at g h c)) e ∙ displaced_theirs in
            let y : class_at (displaced at g h c) k.who ≡ d = k.has in omega arith)) ∙ k.has;
        all = k.all;
      }

      newly : (d : ℕ) → has_bit now d ≡ true → has_bit now'' d ≡ false → Blocked edges at now'' d
      newly d u q = equal_or_not d c
          (λ e. record { who = h; has = it.has ∙ sym e; all = own })
          (λ n. still d (has_below 64 now d fits u) n (s.blocked d (removed_other gone d n ∙ u) q))
