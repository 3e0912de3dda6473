use Rattle.std.proofs.Common.{drop}
use Rattle.wc_binary.specs.declared.section.SectionKind.TheVariants as kinds
use Rattle.wc_binary.specs.Standard.Sections.{in_order}
use Rattle.wc_binary.specs.Standard.Module.{parts_of}
use Rattle.wc_binary.specs.Writing.Sections.{held_bytes, FitsHeld}
use Rattle.wc_binary.proofs.spelling.Encoding.{held-before, section-last}
use Rattle.wc_binary.proofs.encoder.sections.write_sections.Goals as goal

pub returns : goal.returns
returns c =
    let p = parts_of c.args.m.now in
    let out = c.write_section-6.new.out.items in
    let s1 = rw c.as_slice.ensures at c.in_ok-write_section.ensures in
    let s2 = c.in_ok-write_import_section.ensures in
    let s3 = rw c.types.ensures at c.in_ok-write_section-2.ensures in
    let s4 = rw c.as_slice-2.ensures at c.in_ok-write_table_section.ensures in
    let s5 = rw c.as_slice-3.ensures at c.in_ok-write_section-3.ensures in
    let s6 = rw c.as_slice-4.ensures at c.in_ok-write_section-4.ensures in
    let s7 = c.in_ok-write_export_section.ensures in
    let s8 = c.in_ok-write_start_section.ensures in
    let s9 = rw c.as_slice-5.ensures at c.in_ok-write_section-5.ensures in
    let s10 = rw c.codes.ensures at c.in_ok-write_code_section.ensures in
    let s11 = rw c.as_slice-6.ensures at c.write_section-6.ensures in
    let o1 = c.write_section.new.out.items in
    let o2 = c.write_import_section.new.out.items in
    let o3 = c.write_section-2.new.out.items in
    let o4 = c.write_table_section.new.out.items in
    let o5 = c.write_section-3.new.out.items in
    let o6 = c.write_section-4.new.out.items in
    let o7 = c.write_export_section.new.out.items in
    let o8 = c.write_start_section.new.out.items in
    let o9 = c.write_section-5.new.out.items in
    let o10 = c.write_code_section.new.out.items in
    held-before p kinds.Type (drop 1 in_order) c.args.out.now.items o1 out _ s1 (
    held-before p kinds.Import (drop 2 in_order) o1 o2 out _ s2 (
    held-before p kinds.Function (drop 3 in_order) o2 o3 out _ s3 (
    held-before p kinds.Table (drop 4 in_order) o3 o4 out _ s4 (
    held-before p kinds.Memory (drop 5 in_order) o4 o5 out _ s5 (
    held-before p kinds.Global (drop 6 in_order) o5 o6 out _ s6 (
    held-before p kinds.Export (drop 7 in_order) o6 o7 out _ s7 (
    held-before p kinds.Start (drop 8 in_order) o7 o8 out _ s8 (
    held-before p kinds.Element (drop 9 in_order) o8 o9 out _ s9 (
    held-before p kinds.Code (drop 10 in_order) o9 o10 out _ s10 (
    section-last (FitsHeld kinds.Data p.datas) o10 out (held_bytes kinds.Data p.datas) _ s11))))))))))
