mod StartGraphs
