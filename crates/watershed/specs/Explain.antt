-- What `explain_span` gives, as the rules have it, and what its stages hand on.
use Rattle.std.specs.Prelude.{ℕ, ◌<◌, ◌≡◌, List, [], ◌∷◌, length, get_or, replicate, eqb}
use Rattle.rules.specs.Base.{when◌then◌else◌}
use Rattle.rules.specs.Field.{Field, none, spans}
use Rattle.rules.specs.Net.{net_of}
use Rattle.rules.specs.Refusals.{region_refusal}
use Rattle.rules.specs.Growth.{grown, stops}
use Rattle.rules.specs.Outcomes.{Sizes}
use Rattle.rules.specs.Reasons.{Story, story, Reason, flooded, expanded, reason_of, ExplainOutcome, unexplained, explains}
use Rattle.space.specs.Space.{Clear}
use Rattle.net.specs.Table.{net_at}
use Rattle.growth.specs.Grow.{growth_room}
use Rattle.watershed.specs.Stages.{table_at}
use Rattle.watershed.specs.declared.explain.Explanation.{Explanation}

-- an answer, with ws the workspace and l the trail's list at exit
abbrev pub explained : Explanation → List ℕ → List ℕ → ExplainOutcome
explained r ws l = record {
  refused = r.refusal;
  reason = r.reason;
  strip = r.strip;
  group = r.group_count;
  least = r.least_area;
  grown = r.grown_id;
  from = r.from_span;
  length = r.trail_length;
  number = r.number;
  gave = r.gave_back_id;
  objecting = r.objecting_span;
  workspace = ws;
  trail = l;
}

-- one of reasons 1 to 4, the workspace left aside
unfoldable pub without_room : ℕ → ℕ → ℕ → ℕ → Story → List ℕ → ExplainOutcome
without_room reason strip group least y l = record {
  refused = 0;
  reason = reason;
  strip = strip;
  group = group;
  least = least;
  grown = 0;
  from = 0;
  length = 0;
  number = 0;
  gave = y.gave;
  objecting = y.objecting;
  workspace = [];
  trail = l;
}

-- reason 5 or 6, the workspace left aside
unfoldable pub with_room : ℕ → ℕ → ℕ → ℕ → ℕ → Story → List ℕ → ExplainOutcome
with_room reason from id long number y l = record {
  refused = 0;
  reason = reason;
  strip = 0;
  group = 0;
  least = 0;
  grown = id;
  from = from;
  length = long;
  number = number;
  gave = y.gave;
  objecting = y.objecting;
  workspace = [];
  trail = l;
}

unfoldable pub room_reason : ℕ → ℕ → List ℕ → ℕ → Reason
room_reason r a t k = when eqb a none then flooded r t k else expanded r a t k

-- growth is done, and nothing stopped it: the rule's ids and next id, zeros where it worked, the field's net in the table, and span s's story
pub record Grown (F : Field) (dist : List ℕ) (most border table s next : ℕ) (y : Story) (ids ws : List ℕ) : Type 0 where
  pub passes : region_refusal F (length dist ∷ length ids ∷ []) (length ws) dist most ≡ 0
  pub placed : table ≡ table_at (spans F)
  pub span : s < spans F
  pub goes : stops F dist most border ≡ 0
  pub grew : ids ≡ (grown F dist most border).ids
  pub id : next ≡ (grown F dist most border).next
  pub clear : Clear 0 (growth_room (spans F)) ws
  pub net : net_at table F.area ws ≡ net_of F
  pub told : y ≡ story F dist most border s

-- span s is walkable and has a grown id that is not flagged
pub record Living (area ids : List ℕ) (s : ℕ) : Type 0 where
  pub walkable : get_or area s 0 ≡ 0 → ⊥
  pub plain : get_or ids s 0 < 0x8000
  pub some : get_or ids s 0 ≡ 0 → ⊥

-- the outcome of a field that 1 to 8 and 14 let pass: what stops growth, with the trail's list as before, or the reason
pub record Explains (F : Field) (dist : List ℕ) (most : ℕ) (z : Sizes) (s work : ℕ) (trail₀ : List ℕ) (o : ExplainOutcome) : Type 0 where
  pub stopped : (stops F dist most z.border ≡ 0 → ⊥) → o ≡ unexplained (stops F dist most z.border) (replicate work 0) trail₀
  pub told : stops F dist most z.border ≡ 0 → o ≡ explains (spans F) (reason_of F dist most z s) (story F dist most z.border s) work
