use Rattle.std.proofs.Common.{◌≡◌, ◌++◌, ◌∷◌, [], ap, sym, ◌∙◌, List, ℕ, arith, codes, map}
use Rattle.std.specs.List.{range_with_len}
use Rattle.ot_isa.specs.declared.instruction.Instr.TheVariants.{Read, ReadServer}
use Rattle.ot_asm.specs.Canonical.{instr_text, lines_text}
use Rattle.ot_commands.proofs.ListedSessions.{read_more, reads_lines}
use Rattle.ot_commands.proofs.listing.foot.Goals as goal

pub loop-client-preserved : goal.loop-client-preserved
loop-client-preserved c =
    c.in_ok-push_instr.ensures
    ∙ ap (λ (t : List ℕ). t ++ (instr_text (Read c.loop-client.client) ++ 10 ∷ [])) c.loop-client.invariant
    ∙ sym (read_more c.loop-client.client)

pub returns : goal.returns
returns c =
    let clients = c.args.space.now.clients in
    let all : c.loop-client.client ≡ clients = omega (arith, c.loop-client-test.false, c.clients-client-end.ensures.value) in
    let read : lines_text (map instr_text (map Read (range_with_len 0 c.loop-client.client))) ≡ lines_text (map instr_text (map Read (range_with_len 0 clients))) =
    ap (λ (n : ℕ). lines_text (map instr_text (map Read (range_with_len 0 n)))) all in
    c.in_ok-push_str.ensures.bytes
    ∙ ap (λ (t : List ℕ). t ++ (codes "%%" ++ 10 ∷ []))
    (c.in_ok-push_instr-2.ensures ∙ ap (λ (t : List ℕ). t ++ (instr_text ReadServer ++ 10 ∷ [])) (c.loop-client.invariant ∙ read) ∙ sym (reads_lines clients))
