mod FirstApart
