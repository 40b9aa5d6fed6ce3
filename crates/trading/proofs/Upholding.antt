-- Every call, and every list of calls, takes a day on with its history.
use Rattle.std.proofs.Common.{◌≡◌, cond, List, [], ◌∷◌, ◌++◌, sym, ap, ◌∙◌, subst}
use Rattle.std.proofs.lemmas.List.{append_cancel_left}
use Rattle.rulebook.specs.Meaning.{Meaning}
use Rattle.history.specs.declared.Call.{Call}
use Rattle.history.specs.declared.Answer.{Answer}
use Rattle.history.specs.History.{History, after, accepted}
use Rattle.history.specs.Board.{Board, board}
use Rattle.history.specs.Rulings.{ruled_on}
use Rattle.history.specs.Law.{added}
use Rattle.history.proofs.Whole.{law}
use Rattle.day.specs.State.{State, board_of}
use Rattle.day.specs.Calls.{changed}
use Rattle.day.specs.Following.{answered, left, Brings}
use Rattle.trading.specs.Runs.{all_answered, all_left, Upheld}
use Rattle.trading.specs.Laws.{CallsFollowTheHistory}
use Rattle.day.proofs.Start.{start}
use Rattle.trading.proofs.Following.{Follows, same_board, keeps}

follows : (rules : Meaning) (h : History) (s : State) → board_of s ≡ board rules h → Follows rules s h
follows rules h s shown = record {
  minute = ap (λ (b : Board). b.minute) shown;
  contracts = record {
    listed = ap (λ (b : Board). b.listed) shown;
    product = λ c. ap (λ (b : Board). b.product c) shown;
    figures = λ c. ap (λ (b : Board). b.figures c) shown;
    collar = λ c. ap (λ (b : Board). b.collar c) shown;
    halted = λ c. ap (λ (b : Board). b.halted c) shown;
  };
  orders = record {
    count = ap (λ (b : Board). b.orders) shown;
    entry = λ k. ap (λ (b : Board). b.entry k) shown;
    until = λ k. ap (λ (b : Board). b.until k) shown;
    waits = λ k. ap (λ (b : Board). b.waits k) shown;
  };
}

onward : (rules : Meaning) (h : History) (s : State) (call : Call) → Brings rules h s → Brings rules (after h call (answered rules s call)) (left rules s call)
onward rules h s call b =
    let next = keeps rules s h b.lawful (follows rules h s b.shown) call in
    let kept : Follows rules (left rules s call) (after h call (answered rules s call)) =
    subst (λ (on : Board). Follows rules (cond (accepted (ruled_on rules on call)) (changed rules s call) s) (after h call (ruled_on rules on call))) (sym b.shown) next in
    record {
      lawful = (b.lawful, ap (λ (on : Board). ruled_on rules on call) b.shown);
      shown = same_board rules (left rules s call) (after h call (answered rules s call)) kept;
    }

upheld : (rules : Meaning) (h : History) (s : State) → Brings rules h s → Upheld rules h s
upheld rules h s b = record { brings = b; sound = law rules h b.lawful }

brought : (rules : Meaning) (h : History) (s : State) (calls : List Call) → Brings rules h s
    → Brings rules (added h calls (all_answered rules s calls)) (all_left rules s calls)
brought rules h s [] b = b
brought rules h s (call ∷ calls) b = brought rules (after h call (answered rules s call)) (left rules s call) calls (onward rules h s call b)

-- every list of calls
pub all_upheld : (rules : Meaning) (h : History) (s : State) (calls : List Call) → Brings rules h s
    → Upheld rules (added h calls (all_answered rules s calls)) (all_left rules s calls)
all_upheld rules h s calls b = upheld rules (added h calls (all_answered rules s calls)) (all_left rules s calls) (brought rules h s calls b)

-- the same, by the answers that were added to others
pub run_upheld : (rules : Meaning) (h : History) (s t : State) (calls : List Call) (items whole given : List Answer)
    → whole ≡ items ++ all_answered rules s calls → t ≡ all_left rules s calls → Brings rules h s → whole ≡ items ++ given
    → Upheld rules (added h calls given) t
run_upheld rules h s t calls items whole given full day b is =
    let same : all_answered rules s calls ≡ given = append_cancel_left items (all_answered rules s calls) given (sym full ∙ is) in
    subst (λ (p : List Answer × State). Upheld rules (added h calls p.0) p.1) (λ i. (same i, sym day i)) (all_upheld rules h s calls b)

pub calls_follow_the_history : CallsFollowTheHistory
calls_follow_the_history = record {
  start = start;
  onward = λ rules h s call b. upheld rules (after h call (answered rules s call)) (left rules s call) (onward rules h s call b);
}
