use Rattle.ele_svg.proofs.curve.put_point.Goals as goal

pub returns : goal.returns
returns g c = rw (c.as_bytes.ensures.value, c.format.ensures.text, c.x-from_left.ensures.value, c.as_bytes-2.ensures.value, c.format-2.ensures.text, c.curve_y.ensures.value, c.count_of-count.ensures) at c.put_parts.ensures
