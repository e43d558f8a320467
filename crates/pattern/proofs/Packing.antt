-- A rule's number gives back what was packed. Assumes nothing.
use mathlib.Core.Path.{◌≡◌, ◌∙◌}
use Prim.Native.Nat.{ℕ, ◌+◌, ◌*◌, ◌<◌}
use native.Mathlib.Omega.{arith}
use Rattle.pattern.specs.Rule.{scope_in, level_in, least_in, most_in, load_in, Packed}

pub packed : (level least most load scope : ℕ) → level < 16 → least < 16 → most < 16 → load < 16 → scope < 65536
    → Packed level least most load scope (scope + 65536 * level + 1048576 * least + 16777216 * most + 268435456 * load)
unfolding scope_in level_in least_in most_in load_in
packed level least most load scope a b c e d =
    record { its_level = omega arith; its_least = omega arith; its_most = omega arith; its_load = omega arith; its_scope = omega arith }

-- the same under other names
pub packed_as : {level least most load scope least' most' load' scope' r : ℕ} → least ≡ least' → most ≡ most' → load ≡ load' → scope ≡ scope'
    → Packed level least most load scope r → Packed level least' most' load' scope' r
packed_as a b d c p =
    record {
      its_level = p.its_level;
      its_least = p.its_least ∙ a;
      its_most = p.its_most ∙ b;
      its_load = p.its_load ∙ d;
      its_scope = p.its_scope ∙ c;
    }
